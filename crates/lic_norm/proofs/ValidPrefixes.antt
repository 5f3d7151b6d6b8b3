-- The longest front of bytes that is UTF-8.
use Rattle.std.proofs.Common.{◌≡◌, ℕ, zero, suc, ◌+◌, ◌<◌, ◌≤◌, List, ◌++◌, length, take, drop, sym, ap, subst, ◌∙◌, arith, inl, inr, ⊎_elim, true≢false, length-append, length-drop, take-add, take_at}
use Rattle.std.specs.Char.{len_utf8, encode_utf8}
use Rattle.std.specs.Str.{IsUtf8, is_utf8, StartsWithNoChar}
use Rattle.std.specs.Str.Lossy.{valid_len_up_to, utf8_valid_len}
use Rattle.std.proofs.lemmas.Bool.{cases_Bool, cases_lt, cond-true, cond-false}
use Rattle.std.proofs.lemmas.Str.{IsUtf8-from_is_utf8, is_utf8-from_IsUtf8, IsUtf8-append, IsUtf8-encode, IsUtf8-nil, length-encode, len_utf8_bounds}

longest_up_to : (bytes : List ℕ) (m : ℕ)
    → IsUtf8 (take (valid_len_up_to bytes m) bytes) × ((k : ℕ) → valid_len_up_to bytes m < k → k ≤ m → ¬ (IsUtf8 (take k bytes)))
longest_up_to bytes zero = (IsUtf8-nil, λ k above within. absurd (omega arith))
longest_up_to bytes (suc m) =
    let shorter = longest_up_to bytes m in
    elim (cases_Bool (is_utf8 (take (suc m) bytes))) [
      | inl is ↦
          let here : valid_len_up_to bytes (suc m) ≡ suc m = cond-true _ _ _ is in
          (subst (λ n. IsUtf8 (take n bytes)) (sym here) (IsUtf8-from_is_utf8 _ is), λ k above within. absurd (omega arith))
      | inr is_not ↦
          let below : valid_len_up_to bytes (suc m) ≡ valid_len_up_to bytes m = cond-false _ _ _ is_not in (
            subst (λ n. IsUtf8 (take n bytes)) (sym below) shorter.0,
            λ k above within u. ⊎_elim
                (λ (top : m < k).
                let same : k ≡ suc m = omega arith in
                true≢false (sym (is_utf8-from_IsUtf8 _ (subst (λ n. IsUtf8 (take n bytes)) same u)) ∙ is_not))
                (λ (low : k ≤ m). shorter.1 k (omega arith) low u)
                (cases_lt m k),
          )
    ]

-- where the longest prefix that is UTF-8 ends, no character begins
pub no_char_after : (bytes : List ℕ) (n : ℕ) → n ≡ utf8_valid_len bytes → n ≤ length bytes → StartsWithNoChar (drop n bytes)
unfolding utf8_valid_len
no_char_after bytes n longest within c rest scalar parts =
    let front = longest_up_to bytes (length bytes) in
    let long : length (drop n bytes) ≡ len_utf8 c + length rest =
    ap length parts ∙ length-append (encode_utf8 c) rest ∙ ap (λ k. k + length rest) (length-encode c) in
    let more : take (n + len_utf8 c) bytes ≡ take n bytes ++ encode_utf8 c =
    take-add n (len_utf8 c) bytes ∙ ap (λ l. take n bytes ++ take (len_utf8 c) l) parts
    ∙ ap (λ l. take n bytes ++ l) (take_at (encode_utf8 c) rest (len_utf8 c) (length-encode c)) in
    let here : IsUtf8 (take n bytes) = subst (λ k. IsUtf8 (take k bytes)) (sym longest) front.0 in
    front.1 (n + len_utf8 c) (omega (arith, longest, len_utf8_bounds c)) (omega (arith, long, length-drop n bytes))
    (subst IsUtf8 (sym more) (IsUtf8-append (take n bytes) (encode_utf8 c) here (IsUtf8-encode c scalar)))
