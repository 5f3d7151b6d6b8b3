-- Tokens of bytes begin and end between characters of their letters: beside a byte of ASCII, or at the start or the end.
use Rattle.std.proofs.Common.{◌≡◌, ℕ, zero, suc, ◌+◌, ◌-◌, ◌<◌, ◌≤◌, Bool, true, false, not, ◌||◌, ◌⊎◌, List, [], ◌∷◌, length, map, get_or, inl, inr, refl, sym, ap, ◌∙◌, arith, subst}
use Rattle.std.specs.Prelude.{IsUtf8}
use Rattle.std.specs.Str.{IsCharBoundary}
use Rattle.std.proofs.lemmas.Bool.{and_parts, or_cases, cases_Bool, cases_lt, ltb-true, false≢true}
use Rattle.std.proofs.lemmas.List.{length-map, get_or-map, get_or_past}
use Rattle.std.proofs.lemmas.Str.{IsCharBoundary-start, IsCharBoundary-end, IsCharBoundary-before_ascii, IsCharBoundary-after_ascii}
use Rattle.lic_kind.specs.Kinds.{kind_of, is_word_kind}
use Rattle.lic_letters.specs.Bytes.{letter, is_word, is_mark, is_high}
use Rattle.lic_columns.specs.Cells.{Blank, AreCells, cells_of, firsts, lasts, spans, starts_of, ends_of}
use Rattle.lic_columns.specs.Masks.{flag_at, flag_before}
use Rattle.lic_columns.specs.Offsets.{offsets}
use Rattle.lic_columns.proofs.AsciiLetters.{letter_low}
use Rattle.lic_columns.proofs.CellLemmas.{starts_are, ends_are, begins_at, ends}

-- ---- offsets of flags

offsets_at : (at : ℕ) (flags : List Bool) (i : ℕ) → i < length (offsets at flags)
    → (k : ℕ) × (get_or (offsets at flags) i 0 ≡ at + k) × (flag_at flags k ≡ true)
offsets_at at [] i lt = absurd (omega arith)
offsets_at at (true ∷ flags) zero lt = (0, omega arith, refl)
offsets_at at (true ∷ flags) (suc i) lt = let more = offsets_at (suc at) flags i (omega (arith, lt)) in (suc more.0, omega (arith, more.1), more.2)
offsets_at at (false ∷ flags) i lt = let more = offsets_at (suc at) flags i lt in (suc more.0, omega (arith, more.1), more.2)

-- ---- bytes of ASCII

off : (t : Bool) → not t ≡ true → t ≡ false
off false h = refl
off true h = absurd (false≢true h)

no_word_low : (b : ℕ) → is_word b ≡ false → b < 128
no_word_low b none = elim (cases_lt b 128) [
  | inl low ↦ low
  | inr high ↦ absurd (go b high (cases_Bool (is_high b)) none)
]
  where
    high_is : (b : ℕ) → 128 ≤ b → is_high b ≡ false → ⊥
    high_is b high e = let low : b < 128 = ltb-true b 128 (flip _ e) in omega (arith, low, high)
      where
        flip : (t : Bool) → not t ≡ false → t ≡ true
        flip true e = refl
        flip false e = absurd (false≢true (sym e))

    go : (b : ℕ) → 128 ≤ b → (is_high b ≡ true) ⊎ (is_high b ≡ false) → is_word b ≡ false → ⊥
    go b high (inl is) none = false≢true (sym none ∙ ap (λ t. t || is_word_kind (kind_of b)) is)
    go b high (inr is) none = high_is b high is

pub mark_low : (b : ℕ) → is_mark b ≡ true → b < 128
mark_low b is = ltb-true b 128 (and_parts _ _ is).0

-- ---- where tokens of bytes begin and end

module _ (spelled : List ℕ) where
  abbrev letters : List ℕ
  letters = map letter spelled

  long : length letters ≡ length spelled
  long = length-map spelled letter

  low_letter : (k : ℕ) → k < length spelled → get_or spelled k 0 < 128 → get_or letters k 0 < 128
  low_letter k lt low = subst (λ n. n < 128) (sym (get_or-map letter spelled k 0 0 lt)) (letter_low (get_or spelled k 0) low)

  inside : (test : ℕ → Bool) (k : ℕ) → flag_at (map test spelled) k ≡ true → (k < length spelled) × (test (get_or spelled k 0) ≡ true)
  inside test k on = elim (cases_lt k (length spelled)) [
    | inl lt ↦ (lt, sym (get_or-map test spelled k 0 false lt) ∙ on)
    | inr past ↦ absurd (false≢true (sym (get_or_past (map test spelled) k false (omega (arith, past, length-map spelled test))) ∙ on))
  ]

  no_word_at : (k : ℕ) → k < length spelled → flag_at (map is_word spelled) k ≡ false → get_or letters k 0 < 128
  no_word_at k lt none = low_letter k lt (no_word_low (get_or spelled k 0) (sym (get_or-map is_word spelled k 0 false lt) ∙ none))

  mark_at : (k : ℕ) → flag_at (map is_mark spelled) k ≡ true → (k < length spelled) × (get_or letters k 0 < 128)
  mark_at k on = let is = inside is_mark k on in (is.0, low_letter k is.0 (mark_low (get_or spelled k 0) is.1))

  module _ (utf8 : IsUtf8 letters) where
    after : (k : ℕ) → k < length spelled → get_or letters k 0 < 128 → IsCharBoundary letters (suc k)
    after k lt low =
        let next : k + 1 ≡ suc k = omega arith in
        subst (IsCharBoundary letters) next (IsCharBoundary-after_ascii letters k utf8 (omega (arith, lt, long)) low)

    before : (k : ℕ) → k < length spelled → get_or letters k 0 < 128 → IsCharBoundary letters k
    before k lt low = IsCharBoundary-before_ascii letters k (omega (arith, lt, long)) low

    word_begins : (k : ℕ) → flag_at (map is_word spelled) k ≡ true → flag_before (map is_word spelled) k ≡ false → IsCharBoundary letters k
    word_begins zero on none = IsCharBoundary-start letters utf8
    word_begins (suc k) on none =
        let lt : k < length spelled = omega (arith, (inside is_word (suc k) on).0) in
        after k lt (no_word_at k lt none)

    word_ends : (k : ℕ) → flag_at (map is_word spelled) k ≡ true → flag_at (map is_word spelled) (suc k) ≡ false → IsCharBoundary letters (suc k)
    word_ends k on none = elim (cases_lt (suc k) (length spelled)) [
      | inl lt ↦ before (suc k) lt (no_word_at (suc k) lt none)
      | inr past ↦
          let all : length letters ≡ suc k = omega (arith, past, long, (inside is_word k on).0) in
          subst (IsCharBoundary letters) all (IsCharBoundary-end letters)
    ]

    module _ (word mark joined : List Bool) (word_is : word ≡ map is_word spelled)
        (mark_is : (k : ℕ) → flag_at mark k ≡ true → flag_at (map is_mark spelled) k ≡ true) (are : AreCells word mark joined) where
      begins : (k : ℕ) → flag_at (firsts Blank (cells_of word mark joined)) k ≡ true → IsCharBoundary letters k
      begins k on = elim (or_cases _ _ (sym (begins_at word mark joined are k) ∙ on)) [
        | inl w ↦
            let parts = and_parts (flag_at word k) (not (flag_before word k)) w in
            word_begins k (ap (λ l. flag_at l k) (sym word_is) ∙ parts.0) (ap (λ l. flag_before l k) (sym word_is) ∙ off (flag_before word k) parts.1)
        | inr m ↦
            let is = mark_at k (mark_is k (and_parts (flag_at mark k) (not (flag_at joined k)) m).0) in
            before k is.0 is.1
      ]

      stops : (k : ℕ) → flag_at (lasts (cells_of word mark joined)) k ≡ true → IsCharBoundary letters (suc k)
      stops k on = elim (or_cases _ _ (sym (ends word mark joined are k) ∙ on)) [
        | inl w ↦
            let parts = and_parts (flag_at word k) (not (flag_at word (suc k))) w in
            word_ends k (ap (λ l. flag_at l k) (sym word_is) ∙ parts.0) (ap (λ l. flag_at l (suc k)) (sym word_is) ∙ off (flag_at word (suc k)) parts.1)
        | inr m ↦
            let is = mark_at k (mark_is k (and_parts (flag_at mark k) (not (flag_at joined (suc k))) m).0) in
            after k is.0 is.1
      ]

      pub starts_between : (at i : ℕ) → i < length (starts_of (spans at (cells_of word mark joined)))
          → IsCharBoundary letters (get_or (starts_of (spans at (cells_of word mark joined))) i 0 - at)
      starts_between at i lt =
          let cells = cells_of word mark joined in
          let is = sym (starts_are at cells) in
          let found = offsets_at at (firsts Blank cells) i (omega (arith, lt, ap length is)) in
          let offset : found.0 ≡ get_or (starts_of (spans at cells)) i 0 - at = omega (arith, found.1, ap (λ l. get_or l i 0) is) in
          subst (IsCharBoundary letters) offset (begins found.0 found.2)

      pub ends_between : (at i : ℕ) → i < length (ends_of (spans at (cells_of word mark joined)))
          → IsCharBoundary letters (get_or (ends_of (spans at (cells_of word mark joined))) i 0 - at)
      ends_between at i lt =
          let cells = cells_of word mark joined in
          let is = sym (ends_are at cells) in
          let found = offsets_at (suc at) (lasts cells) i (omega (arith, lt, ap length is)) in
          let offset : suc found.0 ≡ get_or (ends_of (spans at cells)) i 0 - at = omega (arith, found.1, ap (λ l. get_or l i 0) is) in
          subst (IsCharBoundary letters) offset (stops found.0 found.2)
