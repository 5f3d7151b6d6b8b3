-- How many bytes a letter has, by the first of them.
use Rattle.std.proofs.Common.{◌≡◌, ℕ, ◌+◌, ◌/◌, ◌%◌, ◌<◌, ◌≤◌, Bool, true, false, cond, ltb, List, [], ◌∷◌, length, get_or, drop, refl, sym, ap, ◌∙◌, arith, ltb-true, lit<}
use Rattle.std.specs.Char.{encode_utf8}
use Rattle.std.proofs.Math.Nat.{div-lt_iff_lt-mul}
use Rattle.lic_view.specs.LettersBefore.{IsLetterBefore}
use Rattle.lic_view.proofs.CountReads.{follows-byte, occurs-follows}
use Rattle.lic_view.proofs.LastLetters.{letter-within}
use Rattle.lic_reverse.proofs.StreakChains.{letter-forward}

-- `long` bytes has a letter that begins with `first`
pub record IsLong (first long : ℕ) : Type 0 where
  pub one : first < 128 → long ≡ 1
  pub two : 128 ≤ first → first < 224 → long ≡ 2
  pub three : 224 ≤ first → first < 240 → long ≡ 3
  pub four : 240 ≤ first → long ≡ 4

abbrev encoded : Bool → Bool → Bool → ℕ → List ℕ
encoded x y z c = cond x (c ∷ [])
    (cond y ((192 + c / 64) ∷ (128 + c % 64) ∷ [])
    (cond z ((224 + c / 4096) ∷ (128 + c / 64 % 64) ∷ (128 + c % 64) ∷ [])
    ((240 + c / 262144) ∷ (128 + c / 4096 % 64) ∷ (128 + c / 64 % 64) ∷ (128 + c % 64) ∷ [])))

pub encode-long : (c : ℕ) → IsLong (get_or (encode_utf8 c) 0 0) (length (encode_utf8 c))
unfolding encode_utf8
encode-long c = by_size (ltb c 128) (ltb c 2048) (ltb c 65536) refl refl refl
  where
    by_size : (x y z : Bool) → ltb c 128 ≡ x → ltb c 2048 ≡ y → ltb c 65536 ≡ z → IsLong (get_or (encoded x y z c) 0 0) (length (encoded x y z c))
    by_size true y z h k m =
        let small : c < 128 = ltb-true c 128 h in
        record { one = λ _. refl; two = λ big _. absurd (omega arith); three = λ big _. absurd (omega arith); four = λ big. absurd (omega arith) }
    by_size false true z h k m =
        let few : c < 2048 = ltb-true c 2048 k in
        let small : c / 64 < 32 = (div-lt_iff_lt-mul (lit< tt)).1 (omega arith) in
        record { one = λ low. absurd (omega arith); two = λ _ _. refl; three = λ big _. absurd (omega arith); four = λ big. absurd (omega arith) }
    by_size false false true h k m =
        let few : c < 65536 = ltb-true c 65536 m in
        let small : c / 4096 < 16 = (div-lt_iff_lt-mul (lit< tt)).1 (omega arith) in
        record { one = λ low. absurd (omega arith); two = λ _ low. absurd (omega arith); three = λ _ _. refl; four = λ big. absurd (omega arith) }
    by_size false false false h k m =
        record { one = λ low. absurd (omega arith); two = λ _ low. absurd (omega arith); three = λ _ low. absurd (omega arith); four = λ _. refl }

-- the end of the letter that begins at a place, by its first byte
pub letter-ends : (bytes : List ℕ) (place end letter first long : ℕ) → first ≡ get_or bytes place 0 →
    ((c : ℕ) → get_or (encode_utf8 c) 0 0 ≡ first → length (encode_utf8 c) ≡ long) → IsLetterBefore bytes end place letter → end ≡ place + long
letter-ends bytes place end letter first long is sized occurs =
    let forward = letter-forward bytes end place letter occurs in
    let end_is : end ≡ place + length (encode_utf8 letter) = occurs.occurs.0 in
    let zero_more : place + 0 ≡ place = omega arith in
    let byte : get_or bytes place 0 ≡ get_or (encode_utf8 letter) 0 0 =
    ap (λ k. get_or bytes k 0) (sym zero_more)
    ∙ follows-byte bytes place (encode_utf8 letter) (drop end bytes) 0 (occurs-follows bytes place (encode_utf8 letter) end occurs.occurs) (omega arith) in
    omega (arith, sized letter (sym byte ∙ sym is))
