-- What the prefilter of first texts says no to has no bound.
use Rattle.std.proofs.Common.{◌≡◌, ◌≢◌, ◌∙◌, ◌-◌, ◌<◌, ◌*◌, ◌/◌, ◌%◌, ◌^◌, ℕ, zero, suc, min, List, [], ◌∷◌, length, get_or, w32, true, false, ◌||◌, ◌==◌, inl, inr, refl, sym, ap, subst, arith, true≢false}
use Rattle.std.proofs.lemmas.Bool.{cases_Bool, cases_eq, cond-false, eq-eqb, eqb-true, or_left, or_right}
use Rattle.std.proofs.Math.Bool.{or-false}
use Rattle.std.proofs.lemmas.List.{get_or-set_same, get_or-set_other}
use Rattle.std.proofs.lemmas.Nat.Bits.{bit_at-suc, bit_at_ones, bit_at_set_other, bit_at_set_same}
use Rattle.std.specs.Prelude.{slice_set, bit_or}
use Rattle.lic_trim.specs.PieceLengths.{has_bit}
use Rattle.lic_trim.proofs.PieceLengths.{has_bit_or}
use Rattle.std.proofs.lemmas.Slice.Eq.{bytes_eq-Decides}
use Rattle.std.specs.Prelude.{bytes_eq, codes}
use Rattle.lic_phrases.specs.FirstTexts.{by_pair, may_have, pair_of, HasAll, HasAllByPair, HasOthers, HasSigns, IsNoSign, IsPlain}
use Rattle.lic_phrases.specs.PhraseLists.{IsRaised}

-- the table with one more bit
abbrev pub with_bit : List ℕ → ℕ → ℕ → List ℕ
with_bit lengths first n = slice_set lengths first (bit_or (get_or lengths first 0) (1 * 2 ^ n % 2 ^ 32))

-- the bits of a mask with one more
bit_added : (mask k n : ℕ) → k < 32 → has_bit (bit_or mask (1 * 2 ^ k % 2 ^ 32)) n ≡ (has_bit mask n || (k == n))
bit_added mask k n small = elim (cases_Bool (k == n)) [
  | inl same ↦
      ap (λ m. has_bit (bit_or mask (1 * 2 ^ k % 2 ^ 32)) m) (sym (eqb-true k n same)) ∙ ap (λ b. b == 1) (bit_at_set_same w32 mask k small)
      ∙ sym (or_right (has_bit mask n) (k == n) same)
  | inr other ↦
      ap (λ b. b == 1) (bit_at_set_other w32 mask k small n (λ e. true≢false (sym (eq-eqb k n (sym e)) ∙ other)))
      ∙ sym (ap (λ b. has_bit mask n || b) other ∙ or-false (has_bit mask n))
]

here : (lengths : List ℕ) (first n m : ℕ) → first < length lengths → n < 32
    → has_bit (get_or (with_bit lengths first n) first 0) m ≡ (has_bit (get_or lengths first 0) m || (n == m))
here lengths first n m within small =
    ap (λ x. has_bit x m) (get_or-set_same lengths first (bit_or (get_or lengths first 0) (1 * 2 ^ n % 2 ^ 32)) 0 within)
    ∙ bit_added (get_or lengths first 0) n m small

pub may_have-added : (lengths bytes : List ℕ) (n : ℕ) → 0 < length bytes → get_or bytes 0 0 < length lengths
    → n ≡ min (length bytes) 31 → may_have (with_bit lengths (get_or bytes 0 0) n) bytes ≡ true
may_have-added lengths [] n some within is = absurd (omega arith)
may_have-added lengths (first ∷ rest) n some within is =
    let m = min (suc (length rest)) 31 in
    here lengths first n m within (omega arith) ∙ or_right (has_bit (get_or lengths first 0) m) (n == m) (eq-eqb n m is)

pub may_have-grows : (lengths : List ℕ) (first n : ℕ) → first < length lengths → n < 32 → (text : List ℕ)
    → may_have lengths text ≡ true → may_have (with_bit lengths first n) text ≡ true
may_have-grows lengths first n within small [] had = refl
may_have-grows lengths first n within small (b ∷ rest) had =
    let m = min (suc (length rest)) 31 in
    elim (cases_eq b first) [
      | inl same ↦
          ap (λ k. has_bit (get_or (with_bit lengths first n) k 0) m) same ∙ here lengths first n m within small
          ∙ or_left (has_bit (get_or lengths first 0) m) (n == m) (ap (λ k. has_bit (get_or lengths k 0) m) (sym same) ∙ had)
      | inr other ↦
          ap (λ x. has_bit x m) (get_or-set_other lengths first b (bit_or (get_or lengths first 0) (1 * 2 ^ n % 2 ^ 32)) 0 other) ∙ had
    ]

-- what a table did not have, one that has grown to a text did not have before
not_before : (old new : List ℕ) → ((t : List ℕ) → may_have old t ≡ true → may_have new t ≡ true)
    → (text : List ℕ) → may_have new text ≡ false → may_have old text ≡ false
not_before old new grows text none = elim (cases_Bool (may_have old text)) [
  | inl had ↦ absurd (true≢false (sym (grows text had) ∙ none))
  | inr not_had ↦ not_had
]

pub HasAll-raised : (old new first : List ℕ) (count : ℕ) (most_from raised : List ℕ → ℕ) → HasAll old most_from
    → IsRaised first count most_from raised → may_have new first ≡ true
    → ((t : List ℕ) → may_have old t ≡ true → may_have new t ≡ true) → HasAll new raised
HasAll-raised old new first count most_from raised all r added grows text none = elim (cases_Bool (bytes_eq first text)) [
  | inl same ↦ absurd (true≢false (sym added ∙ ap (may_have new) ((bytes_eq-Decides first text).0 same) ∙ none))
  | inr other ↦ r.at_text text ∙ cond-false (bytes_eq first text) _ _ other ∙ all text (not_before old new grows text none)
]

-- ---- the table by first and last bytes

pub by_pair-long : (text : List ℕ) → length (by_pair text) ≡ length text
by_pair-long [] = refl
by_pair-long (first ∷ rest) = refl

by_pair-first : (text : List ℕ) → 0 < length text → get_or (by_pair text) 0 0 ≡ pair_of text
by_pair-first [] some = absurd (omega arith)
by_pair-first (first ∷ rest) some = refl

pub may_have_pair-is : (pairs text : List ℕ) → 0 < length text
    → has_bit (get_or pairs (pair_of text) 0) (min (length text) 31) ≡ may_have pairs (by_pair text)
may_have_pair-is pairs [] some = absurd (omega arith)
may_have_pair-is pairs (first ∷ rest) some = refl

pub may_have_pair-added : (pairs text : List ℕ) (row n : ℕ) → 0 < length text → row ≡ pair_of text → row < length pairs → n ≡ min (length text) 31
    → may_have (with_bit pairs row n) (by_pair text) ≡ true
may_have_pair-added pairs text row n some is_row within is =
    let row_is = by_pair-first text some ∙ sym is_row in
    subst (λ r. may_have (with_bit pairs r n) (by_pair text) ≡ true) row_is
    (may_have-added pairs (by_pair text) n (omega (arith, some, by_pair-long text)) (subst (λ r. r < length pairs) (sym row_is) within)
    (is ∙ ap (λ l. min l 31) (sym (by_pair-long text))))

pub HasAllByPair-raised : (old new first : List ℕ) (count : ℕ) (most_from raised : List ℕ → ℕ) → HasAllByPair old most_from
    → IsRaised first count most_from raised → may_have new (by_pair first) ≡ true
    → ((t : List ℕ) → may_have old t ≡ true → may_have new t ≡ true) → HasAllByPair new raised
HasAllByPair-raised old new first count most_from raised all r added grows text none = elim (cases_Bool (bytes_eq first text)) [
  | inl same ↦ absurd (true≢false (sym added ∙ ap (λ t. may_have new (by_pair t)) ((bytes_eq-Decides first text).0 same) ∙ none))
  | inr other ↦ r.at_text text ∙ cond-false (bytes_eq first text) _ _ other ∙ all text (not_before old new grows (by_pair text) none)
]

pub HasSigns-grown : (old new : List ℕ) → ((t : List ℕ) → may_have old t ≡ true → may_have new t ≡ true) → HasSigns old → HasSigns new
HasSigns-grown old new grows signs = record {
  sign = grows (by_pair (codes "copyright")) signs.sign;
  address = grows (by_pair (codes "https")) signs.address;
}

other_pair : (pairs had text : List ℕ) → may_have pairs (by_pair had) ≡ true → may_have pairs (by_pair text) ≡ false → bytes_eq had text ≡ false
other_pair pairs had text there none = elim (cases_Bool (bytes_eq had text)) [
  | inl same ↦ absurd (true≢false (sym there ∙ ap (λ t. may_have pairs (by_pair t)) ((bytes_eq-Decides had text).0 same) ∙ none))
  | inr other ↦ other
]

-- a text that has no bit there is neither
pub no_sign : (pairs text : List ℕ) → HasSigns pairs → may_have pairs (by_pair text) ≡ false → IsNoSign text
no_sign pairs text signs none = record {
  sign = other_pair pairs (codes "copyright") text signs.sign none;
  address = other_pair pairs (codes "https") text signs.address none;
}

-- ---- texts that are not plain

-- the bits of two bytes and more
longer_bits : (n : ℕ) → 1 < n → n < 32 → has_bit (2 ^ 32 - 4) n ≡ true
longer_bits zero two small = absurd (omega arith)
longer_bits (suc zero) two small = absurd (omega arith)
longer_bits (suc (suc n)) two small =
    ap (λ b. b == 1) (bit_at-suc (2 ^ 32 - 4) (suc n) ∙ bit_at-suc ((2 ^ 32 - 4) / 2) n ∙ bit_at_ones 30 n (omega arith))

-- the table with them for a byte
abbrev pub with_longer : List ℕ → ℕ → List ℕ
with_longer lengths first = slice_set lengths first (bit_or (get_or lengths first 0) (2 ^ 32 - 4))

longer_here : (lengths : List ℕ) (first m : ℕ) → first < length lengths
    → has_bit (get_or (with_longer lengths first) first 0) m ≡ (has_bit (get_or lengths first 0) m || has_bit (2 ^ 32 - 4) m)
longer_here lengths first m within =
    ap (λ x. has_bit x m) (get_or-set_same lengths first (bit_or (get_or lengths first 0) (2 ^ 32 - 4)) 0 within)
    ∙ has_bit_or (get_or lengths first 0) (2 ^ 32 - 4) m

pub may_have-longer : (lengths : List ℕ) (first : ℕ) → first < length lengths → (next : ℕ) (rest : List ℕ)
    → may_have (with_longer lengths first) (first ∷ next ∷ rest) ≡ true
may_have-longer lengths first within next rest =
    let m = min (suc (suc (length rest))) 31 in
    longer_here lengths first m within ∙ or_right (has_bit (get_or lengths first 0) m) (has_bit (2 ^ 32 - 4) m) (longer_bits m (omega arith) (omega arith))

pub may_have-grows_longer : (lengths : List ℕ) (first : ℕ) → first < length lengths → (text : List ℕ) → may_have lengths text ≡ true
    → may_have (with_longer lengths first) text ≡ true
may_have-grows_longer lengths first within [] had = refl
may_have-grows_longer lengths first within (b ∷ rest) had =
    let m = min (suc (length rest)) 31 in
    elim (cases_eq b first) [
      | inl same ↦
          ap (λ k. has_bit (get_or (with_longer lengths first) k 0) m) same ∙ longer_here lengths first m within
          ∙ or_left (has_bit (get_or lengths first 0) m) (has_bit (2 ^ 32 - 4) m) (ap (λ k. has_bit (get_or lengths k 0) m) (sym same) ∙ had)
      | inr other ↦
          ap (λ x. has_bit x m) (get_or-set_other lengths first b (bit_or (get_or lengths first 0) (2 ^ 32 - 4)) 0 other) ∙ had
    ]

pub HasOthers-grown : (old new : List ℕ) → ((t : List ℕ) → may_have old t ≡ true → may_have new t ≡ true) → HasOthers old → HasOthers new
HasOthers-grown old new grows others = record {
  sign = grows (codes "copyright") others.sign;
  address = grows (codes "https") others.address;
  parenthesis = grows (codes "(") others.parenthesis;
  apostrophe = λ next rest. grows (0x27 ∷ next ∷ rest) (others.apostrophe next rest);
  hyphen = λ next rest. grows (0x2D ∷ next ∷ rest) (others.hyphen next rest);
}

other_text : (lengths had text : List ℕ) → may_have lengths had ≡ true → may_have lengths text ≡ false → bytes_eq had text ≡ false
other_text lengths had text there none = elim (cases_Bool (bytes_eq had text)) [
  | inl same ↦ absurd (true≢false (sym there ∙ ap (may_have lengths) ((bytes_eq-Decides had text).0 same) ∙ none))
  | inr other ↦ other
]

other_first : (lengths : List ℕ) (first : ℕ) (text : List ℕ) → ((next : ℕ) (rest : List ℕ) → may_have lengths (first ∷ next ∷ rest) ≡ true)
    → may_have lengths text ≡ false → 1 < length text → get_or text 0 0 ≢ first
other_first lengths first [] there none two = absurd (true≢false none)
other_first lengths first (b ∷ []) there none two = absurd (omega arith)
other_first lengths first (b ∷ c ∷ rest) there none two = λ same.
    true≢false (sym (there c rest) ∙ ap (λ x. may_have lengths (x ∷ c ∷ rest)) (sym same) ∙ none)

-- a text that has no bit is plain
pub plain : (lengths text : List ℕ) → HasOthers lengths → may_have lengths text ≡ false → IsPlain text
plain lengths text others none = record {
  sign = other_text lengths (codes "copyright") text others.sign none;
  address = other_text lengths (codes "https") text others.address none;
  parenthesis = other_text lengths (codes "(") text others.parenthesis none;
  apostrophe = other_first lengths 0x27 text others.apostrophe none;
  hyphen = other_first lengths 0x2D text others.hyphen none;
}
