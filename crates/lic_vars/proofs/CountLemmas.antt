-- How many letters are between two places.
use Rattle.std.proofs.Common.{◌≡◌, ℕ, zero, suc, ◌+◌, ◌-◌, ◌<◌, ◌≤◌, Bool, true, false, ◌&&◌, not, cond, IsTrue, List, [], ◌∷◌, ◌++◌, length, get_or, take, drop, count_by, slice_range, refl, sym, ap, ◌∙◌, subst, arith, append-nil, eqb-true, ne_eqb}
use Rattle.std.specs.Char.{encode_utf8}
use Rattle.std.proofs.lemmas.List.{get_or-drop}
use Rattle.std.proofs.lemmas.List.Sums.{sum_by-append, sum_by-cons}
use Rattle.std.proofs.lemmas.Str.{inside_one}
use Rattle.lic_words.specs.Words.{blank}
use Rattle.lic_norm.specs.Tokens.{TokenValue}
use Rattle.lic_places.specs.Places.{AreTexts, OverBlank, is_blank_at, spelling_of}
use Rattle.lic_places.specs.Places.OverBlank.{over, stays}
use Rattle.lic_places.proofs.TokenPlaces.{OverBlank-order}
use Rattle.lic_vars.specs.Counts.{begins_character}
use Rattle.lic_vars.proofs.CountBytes.{as_count, count-encode, slice-split}
use Rattle.lic_vars.specs.Cuts.{letter_place}
use Rattle.lic_vars.specs.Shortest.{begins_letter, letters_between}
use Rattle.lic_vars.proofs.StepOverLemmas.{Hops, LetterAt, past, cut_at, hop-forward, hops-forward}

count-cons : (p : ℕ → Bool) (b : ℕ) (bs : List ℕ) → count_by p (b ∷ bs) ≡ as_count (p b) + count_by p bs
count-cons p b bs = sum_by-cons (λ x. cond (p x) 1 0) b bs

count-append : (xs ys : List ℕ) → count_by begins_letter (xs ++ ys) ≡ count_by begins_letter xs + count_by begins_letter ys
count-append xs ys = sum_by-append (λ x. cond (begins_letter x) 1 0) xs ys

-- where no byte is a blank
dark_byte : (b : ℕ) → ¬ (b ≡ 0x20) → begins_letter b ≡ begins_character b
dark_byte b other = ap (λ x. not x && begins_character b) (ne_eqb b 0x20 other)

count-dark : (xs : List ℕ) → ((k : ℕ) → k < length xs → ¬ (get_or xs k 0 ≡ 0x20)) → count_by begins_letter xs ≡ count_by begins_character xs
count-dark [] none = refl
count-dark (b ∷ xs) none =
    let first : as_count (begins_letter b) ≡ as_count (begins_character b) = ap as_count (dark_byte b (none 0 (omega arith))) in
    let later : count_by begins_letter xs ≡ count_by begins_character xs = count-dark xs (λ k below. none (suc k) (omega arith)) in
    omega (arith, count-cons begins_letter b xs, count-cons begins_character b xs, first, later)

count-letter : (c : ℕ) → ¬ (c ≡ blank) → count_by begins_letter (encode_utf8 c) ≡ 1
count-letter c other =
    count-dark (encode_utf8 c) (λ k below is. other (inside_one c [] (encode_utf8 c) k (sym (append-nil (encode_utf8 c))) below (omega (arith, is)) ∙ is))
    ∙ count-encode c

pub between-none : (bs : List ℕ) (p : ℕ) → letters_between bs p p ≡ 0
between-none bs p = let e : p - p ≡ 0 = omega arith in ap (λ n. count_by begins_letter (take n (drop p bs))) e

between-split : (bs : List ℕ) (p r q : ℕ) → p ≤ r → r ≤ q → letters_between bs p q ≡ letters_between bs p r + letters_between bs r q
between-split bs p r q h k =
    ap (count_by begins_letter) (slice-split bs p r q h k) ∙ count-append (slice_range bs p r) (slice_range bs r q)

module _ (tokens : List TokenValue) (are : AreTexts tokens) where
  abbrev bytes : List ℕ
  bytes = spelling_of tokens

  blank-one : (p : ℕ) → IsTrue (is_blank_at bytes p) → letters_between bytes p (suc p) ≡ 0
  blank-one p is =
      let one : suc p - p ≡ 1 = omega arith in
      ap (λ n. count_by begins_letter (take n (drop p bytes))) one ∙ first (drop p bytes) (get_or-first (eqb-true (get_or bytes p 0) 0x20 is))
    where
      get_or-first : get_or bytes p 0 ≡ 0x20 → get_or (drop p bytes) 0 0 ≡ 0x20
      get_or-first e = get_or-drop p bytes 0 0 ∙ (let same : p + 0 ≡ p = omega arith in ap (λ k. get_or bytes k 0) same) ∙ e

      first : (xs : List ℕ) → get_or xs 0 0 ≡ 0x20 → count_by begins_letter (take 1 xs) ≡ 0
      first [] e = refl
      first (x ∷ xs) e = subst (λ b. count_by begins_letter (b ∷ []) ≡ 0) (sym e) refl

  over-none : (p r : ℕ) → OverBlank tokens p r → letters_between bytes p r ≡ 0
  over-none p _ (over is) = blank-one p is
  over-none p _ (stays free gap) = between-none bytes p

  before-letter : (p : ℕ) (b : Bool) (c : ℕ) → LetterAt tokens are p b c
      → (letters_between bytes p (letter_place tokens (cut_at p b)) ≡ 0) × (p ≤ letter_place tokens (cut_at p b))
  before-letter p true c at =
      let leads = at.leads refl in
      (over-none p (letter_place tokens (cut_at p true)) leads, (OverBlank-order tokens p (letter_place tokens (cut_at p true)) leads).0)
  before-letter p false c at = (between-none bytes p, omega arith)

  hop-count : (p : ℕ) (b : Bool) (c : ℕ) → LetterAt tokens are p b c → letters_between bytes p (past tokens are p b c) ≡ 1
  hop-count p b c at =
      let place = letter_place tokens (cut_at p b) in
      let front = before-letter p b c at in
      let letter : letters_between bytes place (past tokens are p b c) ≡ 1 = ap (count_by begins_letter) at.occurs.1 ∙ count-letter c at.other in
      omega (arith, between-split bytes p place (past tokens are p b c) front.1 (omega arith), front.0, letter)

  pub hops-count : (p n q : ℕ) → Hops tokens are p n q → letters_between bytes p q ≡ n
  hops-count p zero q same = subst (λ x. letters_between bytes p x ≡ 0) same (between-none bytes p)
  hops-count p (suc n) q (b, c, at, later) =
      let next = past tokens are p b c in
      let to : p ≤ next = omega (arith, hop-forward tokens are p b c at) in
      omega (arith, between-split bytes p next q to (hops-forward tokens are next n q later), hop-count p b c at, hops-count next n q later)
