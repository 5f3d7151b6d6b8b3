-- What is at a place of a text: letters and blanks by their bytes.
use Rattle.std.proofs.Common.{◌≡◌, ◌≢◌, ℕ, suc, ◌+◌, ◌-◌, ◌<◌, inl, inr, ◌==◌, List, [], ◌∷◌, ◌++◌, length, get_or, take, drop, IsTrue, refl, sym, ap, ◌∙◌, subst, arith, add-zero, add-one}
use Rattle.std.specs.Prelude.{slice_range}
use Rattle.std.specs.Char.{IsScalar, encode_utf8}
use Rattle.std.proofs.lemmas.Bool.{eqb-true}
use Rattle.std.proofs.lemmas.List.{drop-drop, drop_at, take_at, take-append-drop, get_or-drop}
use Rattle.std.proofs.lemmas.Str.{length-encode, len_utf8_bounds, encode_same, inside_one}
use Rattle.lic_words.specs.Words.{blank}
use Rattle.lic_tokens.specs.Tokens.{TokenValue}
use Rattle.lic_tokens.specs.Places.{IsTokenEnd}
use Rattle.lic_places.specs.Places.{HasGap, IsAfterBlank, OverBlank, over, stays, Occurs, is_blank_at, spelling_of}
use Rattle.lic_places.proofs.TieReading.{HasLetter, IsShut, IsFree, IsNeeded}

-- ---- bytes

-- the bytes after the first of those from a place on
pub drop-on : (bytes front rest : List ℕ) (p : ℕ) → drop p bytes ≡ front ++ rest → drop (p + length front) bytes ≡ rest
drop-on bytes front rest p is =
    sym (drop-drop (length front) p bytes) ∙ ap (drop (length front)) is ∙ drop_at front rest (length front) refl

pub drop-blank : (bytes rest : List ℕ) (p : ℕ) → drop p bytes ≡ 0x20 ∷ rest → drop (suc p) bytes ≡ rest
drop-blank bytes rest p is = ap (λ k. drop k bytes) (sym (add-one p)) ∙ drop-on bytes (0x20 ∷ []) rest p is

slice-on : (bytes front rest : List ℕ) (p : ℕ) → drop p bytes ≡ front ++ rest → slice_range bytes p (p + length front) ≡ front
slice-on bytes front rest p is =
    let size : p + length front - p ≡ length front = omega arith in
    ap (λ n. take n (drop p bytes)) size ∙ ap (take (length front)) is ∙ take_at front rest (length front) refl

-- what is at a place, with the bytes after it
Occurs-on : (bytes text : List ℕ) (p q : ℕ) → Occurs bytes p text q → drop p bytes ≡ text ++ drop (q - p) (drop p bytes)
Occurs-on bytes text p q occurs =
    sym (take-append-drop (q - p) (drop p bytes)) ∙ ap (λ x. x ++ drop (q - p) (drop p bytes)) occurs.1

byte-on : (bytes : List ℕ) (p k : ℕ) → get_or bytes (p + k) 0 ≡ get_or (drop p bytes) k 0
byte-on bytes p k = sym (get_or-drop p bytes k 0)

-- ---- blanks

byte-blank : (bytes : List ℕ) (p : ℕ) → IsTrue (is_blank_at bytes p) → get_or bytes p 0 ≡ 0x20
byte-blank bytes p is = eqb-true (get_or bytes p 0) 0x20 is

is_blank_at-byte : (bytes rest : List ℕ) (p : ℕ) → drop p bytes ≡ 0x20 ∷ rest → IsTrue (is_blank_at bytes p)
is_blank_at-byte bytes rest p is =
    let byte : get_or bytes p 0 ≡ 0x20 = ap (λ k. get_or bytes k 0) (sym (add-zero p)) ∙ byte-on bytes p 0 ∙ ap (λ x. get_or x 0 0) is in
    ap (λ b. b == 0x20) byte

-- no byte of another letter is a blank
not_within : (bytes rest : List ℕ) (p c k : ℕ) → c ≢ blank → drop p bytes ≡ encode_utf8 c ++ rest → k < length (encode_utf8 c)
    → IsTrue (is_blank_at bytes (p + k)) → ⊥
not_within bytes rest p c k other is within blank_at =
    let byte : get_or (drop p bytes) k 0 ≡ 0x20 = sym (byte-on bytes p k) ∙ byte-blank bytes (p + k) blank_at in
    other (inside_one c rest (drop p bytes) k is within (omega arith) ∙ byte)

pub length-letter : (c : ℕ) → 0 < length (encode_utf8 c)
length-letter c = omega (arith, length-encode c, (len_utf8_bounds c).0)

-- no blank is where another letter begins
pub not_at : (bytes rest : List ℕ) (p c : ℕ) → c ≢ blank → drop p bytes ≡ encode_utf8 c ++ rest → IsTrue (is_blank_at bytes p) → ⊥
not_at bytes rest p c other is blank_at =
    not_within bytes rest p c 0 other is (length-letter c) (subst (λ x. IsTrue (is_blank_at bytes x)) (sym (add-zero p)) blank_at)

-- no blank comes before the place where another letter ends
pub not_after : (bytes rest : List ℕ) (p c : ℕ) → c ≢ blank → drop p bytes ≡ encode_utf8 c ++ rest
    → IsAfterBlank bytes (p + length (encode_utf8 c)) → ⊥
not_after bytes rest p c other is (k, next, blank_at) =
    let some = length-letter c in
    let within : length (encode_utf8 c) - 1 < length (encode_utf8 c) = omega arith in
    let last : k ≡ p + (length (encode_utf8 c) - 1) = omega arith in
    not_within bytes rest p c (length (encode_utf8 c) - 1) other is within (subst (λ x. IsTrue (is_blank_at bytes x)) last blank_at)

-- ---- letters

pub has_letter : (tokens : List TokenValue) (rest : List ℕ) (p c : ℕ) → c ≢ blank → IsScalar c
    → drop p (spelling_of tokens) ≡ encode_utf8 c ++ rest → HasLetter tokens p c (p + length (encode_utf8 c))
has_letter tokens rest p c other scalar is = record {
  other = other;
  scalar = scalar;
  occurs = (refl, slice-on (spelling_of tokens) (encode_utf8 c) rest p is);
  only = λ d r d_scalar occurs.
      let after = drop (r - p) (drop p (spelling_of tokens)) in
      let same = encode_same d c after rest (sym (Occurs-on (spelling_of tokens) (encode_utf8 d) p r occurs) ∙ is) in
      (same.0, occurs.0 ∙ ap (λ x. p + length (encode_utf8 x)) same.0);
}

-- ---- gaps

module _ (tokens : List TokenValue) where
  shut_inside : (p q : ℕ) → (IsTrue (is_blank_at (spelling_of tokens) p) → ⊥) → (HasGap tokens p → ⊥) → OverBlank tokens p q → ⊥
  shut_inside p q no_blank none (over is) = no_blank is
  shut_inside p q no_blank none (stays not_after gap) = none gap

  no_gap_inside : (p : ℕ) → (IsTrue (is_blank_at (spelling_of tokens) p) → ⊥) → 0 < p → (IsTokenEnd tokens p → ⊥) → HasGap tokens p → ⊥
  no_gap_inside p no_blank forward inside (inl is) = omega arith
  no_gap_inside p no_blank forward inside (inr (inl is)) = no_blank is
  no_gap_inside p no_blank forward inside (inr (inr is)) = inside is

  -- no blank may come before a letter inside a token
  pub is_shut_inside : (rest : List ℕ) (p c : ℕ) → c ≢ blank → drop p (spelling_of tokens) ≡ encode_utf8 c ++ rest
      → 0 < p → (IsTokenEnd tokens p → ⊥) → IsShut tokens p
  is_shut_inside rest p c other is forward inside =
      let no_blank : IsTrue (is_blank_at (spelling_of tokens) p) → ⊥ = not_at (spelling_of tokens) rest p c other is in
      record { nowhere = λ q leads. shut_inside p q no_blank (no_gap_inside p no_blank forward inside) leads }

  shut_after : (p q : ℕ) → (IsTrue (is_blank_at (spelling_of tokens) p) → ⊥) → IsAfterBlank (spelling_of tokens) p → OverBlank tokens p q → ⊥
  shut_after p q no_blank after_blank (over is) = no_blank is
  shut_after p q no_blank after_blank (stays not_after gap) = not_after after_blank

  only_stays : (p q : ℕ) → (IsTrue (is_blank_at (spelling_of tokens) p) → ⊥) → OverBlank tokens p q → q ≡ p
  only_stays p q no_blank (over is) = absurd (no_blank is)
  only_stays p q no_blank (stays not_after gap) = refl

  -- blanks may be at the end of a token before a letter
  pub is_free_before : (rest : List ℕ) (p c : ℕ) → c ≢ blank → drop p (spelling_of tokens) ≡ encode_utf8 c ++ rest
      → (IsAfterBlank (spelling_of tokens) p → ⊥) → HasGap tokens p → IsFree tokens p
  is_free_before rest p c other is no_blank gap = record {
    stay = stays no_blank gap;
    only = λ q leads. only_stays p q (not_at (spelling_of tokens) rest p c other is) leads;
  }

  -- a blank of the text before a letter
  pub is_needed_before : (rest : List ℕ) (p c : ℕ) → c ≢ blank → drop p (spelling_of tokens) ≡ 0x20 ∷ (encode_utf8 c ++ rest)
      → (IsAfterBlank (spelling_of tokens) p → ⊥) → IsNeeded tokens p (suc p)
  is_needed_before rest p c other is no_blank =
      let bytes = spelling_of tokens in
      let blank_at : IsTrue (is_blank_at bytes p) = is_blank_at-byte bytes (encode_utf8 c ++ rest) p is in
      let next : drop (suc p) bytes ≡ encode_utf8 c ++ rest = drop-blank bytes (encode_utf8 c ++ rest) p is in
      record {
        stay = stays no_blank (inr (inl blank_at));
        is_blank = blank_at;
        next = refl;
        shut = record { nowhere = λ q leads. shut_after (suc p) q (not_at bytes rest (suc p) c other next) (p, refl, blank_at) leads };
        no_letter = λ d q d_other scalar occurs.
            not_at bytes (drop (q - p) (drop p bytes)) p d d_other (Occurs-on bytes (encode_utf8 d) p q occurs) blank_at;
      }
