-- Letters that begin with two bytes of a class in common: word characters that are their own letters.
use Rattle.std.proofs.Common.{◌≡◌, ℕ, ◌+◌, ◌-◌, ◌*◌, ◌/◌, ◌%◌, ◌<◌, ◌≤◌, Bool, true, false, not, ◌&&◌, ◌||◌, ◌==◌, List, [], ◌∷◌, ◌++◌, length, get_or, drop, inl, inr, refl, sym, ap, ap₂, subst, ◌∙◌, arith, eqb-true, ltb-true, leb-true}
use Rattle.std.specs.Prelude.{nat_le, bit_and}
use Rattle.std.specs.Char.{encode_utf8, len_utf8}
use Rattle.std.specs.Int.{is_in_range}
use Rattle.std.proofs.lemmas.Bool.{and_parts, or_cases, cases_eq}
use Rattle.std.proofs.lemmas.Nat.{and_le_l, and_le_r}
use Rattle.std.proofs.lemmas.Str.{length-encode}
use Rattle.std.proofs.Math.Utf8.{low_scalar}
use Rattle.ucd_table.proofs.Computing.{tables}
use Rattle.ucd_table.proofs.Facts.{Stepped-below}
use Rattle.ucd_table.proofs.GroupsCheck.{same_string, same_string-true}
use Rattle.ucd_case.specs.CaseFolding.{full_folding, or_itself}
use Rattle.ucd_case.proofs.CaseFoldingLemmas.{full_folding_stepped}
use Rattle.lic_kind.specs.declared.Kind.TheVariants.{Word}
use Rattle.lic_kind.specs.Kinds.{kind_of, is_word_kind, spell}
use Rattle.lic_kind.specs.Ranges.{is_without_case}
use Rattle.lic_kind.proofs.FoldingLemmas.{default_case_fold-one}
use Rattle.lic_kind.proofs.KindLemmas.{is_word_kind-true}
use Rattle.lic_kind.proofs.PlainWords.{words_without_case, letters_without_case}
use Rattle.lic_kind.proofs.WordFoldings.{spell-folding}
use Rattle.lic_trim.proofs.ItemLemmas.{in_range}
use Rattle.lic_letters.specs.declared.wide.own.TheConstants.{TWO_FIRST_LOW, TWO_FIRST_HIGH, TWO_SECOND_LOW, TWO_SECOND_HIGH, THREE_FIRST_LOW, THREE_FIRST_HIGH, THREE_SECOND_LOW, THREE_SECOND_HIGH}
use Rattle.lic_letters.specs.OwnLetters.{are_common, begins_two, begins_three, class_in, continues}
use Rattle.lic_letters.specs.Simple.{AreOwn}
use Rattle.lic_letters.proofs.Lanes.{below, every_below}
use Rattle.lic_letters.proofs.WideBytes.{letter_own, two_is, three_is}

-- ---- which bytes have a class

no_common : (m n : ℕ) → bit_and m n ≡ 0 → are_common m n ≡ false
no_common m n e = ap (λ k. not (k == 0)) e

common-left : (m n : ℕ) → are_common m n ≡ true → 0 < m
common-left m n is = elim (cases_eq m 0) [
  | inl none ↦ absurd (let clash : false ≡ true = sym (no_common m n (omega (arith, and_le_l m n, none))) ∙ is in cc)
  | inr some ↦ omega (arith, some)
]

common-right : (m n : ℕ) → are_common m n ≡ true → 0 < n
common-right m n is = elim (cases_eq n 0) [
  | inl none ↦ absurd (let clash : false ≡ true = sym (no_common m n (omega (arith, and_le_r m n, none))) ∙ is in cc)
  | inr some ↦ omega (arith, some)
]

-- a number with a class is in a range, by computing
abbrev fits : (ℕ → ℕ) → ℕ → ℕ → ℕ → Bool
fits f low high d = (f d == 0) || (nat_le low d && nat_le d high)

classed : (f : ℕ → ℕ) (low high : ℕ) → below (fits f low high) 256 ≡ true → (a : ℕ) → a < 256 → 0 < f a → (low ≤ a) × (a ≤ high)
classed f low high table a small some = elim (or_cases _ _ (every_below (fits f low high) 256 table a small)) [
  | inl none ↦ absurd (let zero : f a ≡ 0 = eqb-true (f a) 0 none in omega (arith, zero, some))
  | inr both ↦ let parts = and_parts _ _ both in (leb-true low a parts.0, leb-true a high parts.1)
]

-- the first two bytes of a letter
record AreFirst (low high a b : ℕ) : Type 0 where
  a_low : low ≤ a
  a_high : a ≤ high
  b_low : 128 ≤ b
  b_high : b ≤ 191

first_two : (a b : ℕ) → a < 256 → b < 256 → begins_two a b ≡ true → AreFirst 194 223 a b
first_two a b small_a small_b is =
    let one = classed (class_in TWO_FIRST_LOW TWO_FIRST_HIGH) 194 223 refl a small_a (common-left _ _ is) in
    let two = classed (class_in TWO_SECOND_LOW TWO_SECOND_HIGH) 128 191 refl b small_b (common-right _ _ is) in
    record { a_low = one.0; a_high = one.1; b_low = two.0; b_high = two.1 }

first_three : (a b : ℕ) → a < 256 → b < 256 → begins_three a b ≡ true → AreFirst 224 237 a b
first_three a b small_a small_b is =
    let one = classed (class_in THREE_FIRST_LOW THREE_FIRST_HIGH) 224 237 refl a small_a (common-left _ _ is) in
    let two = classed (class_in THREE_SECOND_LOW THREE_SECOND_HIGH) 128 191 refl b small_b (common-right _ _ is) in
    record { a_low = one.0; a_high = one.1; b_low = two.0; b_high = two.1 }

-- none of them is ASCII, and none begins a letter after another
pub two_leads : (a b : ℕ) → a < 256 → b < 256 → begins_two a b ≡ true → (194 ≤ a) × (b ≤ 191)
two_leads a b small_a small_b is = let first = first_two a b small_a small_b is in (first.a_low, first.b_high)

pub three_leads : (a b : ℕ) → a < 256 → b < 256 → begins_three a b ≡ true → (224 ≤ a) × (b ≤ 191)
three_leads a b small_a small_b is = let first = first_three a b small_a small_b is in (first.a_low, first.b_high)

-- ---- letters of two bytes

record IsOwn (c : ℕ) : Type 0 where
  word : kind_of c ≡ Word
  letter : spell c ≡ c ∷ []

-- no letter begins so, or this is a word character and its own folding
abbrev two_entry : ℕ → List ℕ → Bool
two_entry c folding = not (begins_two (192 + c / 64) (128 + c % 64)) || (is_word_kind (kind_of c) && same_string (or_itself c folding) (c ∷ []))

-- computed for each character of two bytes
two_entries : (c : ℕ) → c < 2048 → two_entry c (full_folding c) ≡ true
unfolding tables full_folding_stepped kind_of
two_entries = Stepped-below full_folding full_folding_stepped two_entry 2048 refl

own_two : (c : ℕ) → c < 2048 → begins_two (192 + c / 64) (128 + c % 64) ≡ true → IsOwn c
own_two c small is = elim (or_cases _ _ (two_entries c small)) [
  | inl none ↦ absurd (let clash : false ≡ true = sym (ap not is) ∙ none in cc)
  | inr own ↦
      let parts = and_parts _ _ own in
      let word = is_word_kind-true (kind_of c) parts.0 in
      record { word = word; letter = spell-folding c word ∙ default_case_fold-one c ∙ same_string-true _ _ parts.1 }
]

-- a character at the start of bytes that is its own letter
at_start : (c n : ℕ) (bytes text : List ℕ) → encode_utf8 c ≡ text → length text ≡ n → n ≤ length bytes → bytes ≡ text ++ drop n bytes → 128 ≤ c → c < 55296
    → IsOwn c → AreOwn bytes n
at_start c n bytes text is size within parts big small own =
    let width : len_utf8 c ≡ n = sym (length-encode c) ∙ ap length is ∙ size in
    let start : bytes ≡ encode_utf8 c ++ drop (len_utf8 c) bytes = parts ∙ ap₂ (λ l m. l ++ drop m bytes) (sym is) (sym width) in
    subst (AreOwn bytes) width (letter_own c bytes (low_scalar c small) big own.word own.letter (omega (arith, width, within)) start)

two_of : (bytes : List ℕ) → 2 ≤ length bytes → bytes ≡ get_or bytes 0 0 ∷ get_or bytes 1 0 ∷ drop 2 bytes
two_of [] h = absurd (omega arith)
two_of (a ∷ []) h = absurd (omega arith)
two_of (a ∷ b ∷ bytes) h = refl

letter_two : (a b c : ℕ) → AreFirst 194 223 a b → begins_two a b ≡ true → c ≡ (a - 192) * 64 + (b - 128)
    → (128 ≤ c) × (c < 2048) × (encode_utf8 c ≡ a ∷ b ∷ []) × IsOwn c
letter_two a b c are is e =
    let first : 192 + c / 64 ≡ a = omega (arith, e, are.a_low, are.a_high, are.b_low, are.b_high) in
    let second : 128 + c % 64 ≡ b = omega (arith, e, are.a_low, are.a_high, are.b_low, are.b_high) in
    let big : 128 ≤ c = omega (arith, e, are.a_low, are.b_low) in
    let small : c < 2048 = omega (arith, e, are.a_high, are.b_high) in
    (big, small, two_is a b c are.a_low are.a_high are.b_low are.b_high e, own_two c small (ap₂ begins_two first second ∙ is))

pub two_own : (bytes : List ℕ) → 2 ≤ length bytes → get_or bytes 0 0 < 256 → get_or bytes 1 0 < 256
    → begins_two (get_or bytes 0 0) (get_or bytes 1 0) ≡ true → AreOwn bytes 2
two_own bytes long small_a small_b is =
    let a : ℕ = get_or bytes 0 0 in
    let b : ℕ = get_or bytes 1 0 in
    let letter = letter_two a b ((a - 192) * 64 + (b - 128)) (first_two a b small_a small_b is) is refl in
    at_start ((a - 192) * 64 + (b - 128)) 2 bytes (a ∷ b ∷ []) letter.2 refl long (two_of bytes long) letter.0
    (omega (arith, letter.1)) letter.3

-- ---- letters of three bytes

-- the 64 characters from this one on are of a range without case
abbrev is_far : ℕ → Bool
is_far c = (nat_le 2048 c && nat_le (c + 63) 4255) || ((nat_le 12289 c && nat_le (c + 63) 42559) || (nat_le 44032 c && nat_le (c + 63) 55295))

abbrev three_entry : ℕ → Bool
three_entry h = not (begins_three (224 + h / 64) (128 + h % 64)) || is_far (h * 64)

three_entries : (h : ℕ) → h < 1024 → three_entry h ≡ true
three_entries h small = every_below three_entry 1024 refl h small

or_one : (t u v : Bool) → t ≡ true → (t || u || v) ≡ true
or_one true u v h = refl
or_one false u v h = absurd (let clash : false ≡ true = h in cc)

or_two : (t u v : Bool) → u ≡ true → (t || u || v) ≡ true
or_two true u v h = refl
or_two false true v h = refl
or_two false false v h = absurd (let clash : false ≡ true = h in cc)

or_three : (t u v : Bool) → v ≡ true → (t || u || v) ≡ true
or_three true u v h = refl
or_three false true v h = refl
or_three false false true h = refl
or_three false false false h = absurd (let clash : false ≡ true = h in cc)

record IsFar (c : ℕ) : Type 0 where
  big : 2048 ≤ c
  small : c < 55296
  without : is_without_case c ≡ true

module _ (c : ℕ) where
  abbrev near : Bool
  near = is_in_range 0x590 0x109F c

  abbrev east : Bool
  east = is_in_range 0x3001 0xA63F c

  abbrev hangul : Bool
  hangul = is_in_range 0xAC00 0xD7FF c

  far_from : (low d : ℕ) → d < 64 → c ≡ low + d → is_far low ≡ true → IsFar c
  far_from low d few e is = elim (or_cases _ _ is) [
    | inl one ↦
        let parts = and_parts _ _ one in
        let from = leb-true 2048 low parts.0 in
        let to = leb-true (low + 63) 4255 parts.1 in
        record {
          big = omega (arith, e, from);
          small = omega (arith, e, to, few);
          without = or_one near east hangul (in_range 0x590 0x109F c (omega (arith, e, from)) (omega (arith, e, to, few)));
        }
    | inr more ↦ elim (or_cases _ _ more) [
      | inl two ↦
          let parts = and_parts _ _ two in
          let from = leb-true 12289 low parts.0 in
          let to = leb-true (low + 63) 42559 parts.1 in
          record {
            big = omega (arith, e, from);
            small = omega (arith, e, to, few);
            without = or_two near east hangul (in_range 0x3001 0xA63F c (omega (arith, e, from)) (omega (arith, e, to, few)));
          }
      | inr three ↦
          let parts = and_parts _ _ three in
          let from = leb-true 44032 low parts.0 in
          let to = leb-true (low + 63) 55295 parts.1 in
          record {
            big = omega (arith, e, from);
            small = omega (arith, e, to, few);
            without = or_three near east hangul (in_range 0xAC00 0xD7FF c (omega (arith, e, from)) (omega (arith, e, to, few)));
          }
    ]
  ]

three_far : (h c d : ℕ) → h < 1024 → d < 64 → c ≡ h * 64 + d → begins_three (224 + h / 64) (128 + h % 64) ≡ true → IsFar c
three_far h c d small few e is = elim (or_cases _ _ (three_entries h small)) [
  | inl none ↦ absurd (let clash : false ≡ true = sym (ap not is) ∙ none in cc)
  | inr far ↦ far_from c (h * 64) d few e far
]

three_of : (bytes : List ℕ) → 3 ≤ length bytes → bytes ≡ get_or bytes 0 0 ∷ get_or bytes 1 0 ∷ get_or bytes 2 0 ∷ drop 3 bytes
three_of [] h = absurd (omega arith)
three_of (a ∷ []) h = absurd (omega arith)
three_of (a ∷ b ∷ []) h = absurd (omega arith)
three_of (a ∷ b ∷ d ∷ bytes) h = refl

letter_three : (a b d h c : ℕ) → AreFirst 224 237 a b → 128 ≤ d → d ≤ 191 → begins_three a b ≡ true → h ≡ (a - 224) * 64 + (b - 128)
    → c ≡ h * 64 + (d - 128) → IsFar c
letter_three a b d h c are d_low d_high is e f =
    let first : 224 + h / 64 ≡ a = omega (arith, e, are.a_low, are.a_high, are.b_low, are.b_high) in
    let second : 128 + h % 64 ≡ b = omega (arith, e, are.a_low, are.a_high, are.b_low, are.b_high) in
    three_far h c (d - 128) (omega (arith, e, are.a_high, are.b_high)) (omega (arith, d_low, d_high)) f (ap₂ begins_three first second ∙ is)

pub three_own : (bytes : List ℕ) → 3 ≤ length bytes → get_or bytes 0 0 < 256 → get_or bytes 1 0 < 256
    → begins_three (get_or bytes 0 0) (get_or bytes 1 0) ≡ true → continues (get_or bytes 2 0) ≡ true → AreOwn bytes 3
three_own bytes long small_a small_b is goes =
    let a : ℕ = get_or bytes 0 0 in
    let b : ℕ = get_or bytes 1 0 in
    let d : ℕ = get_or bytes 2 0 in
    let parts = and_parts _ _ goes in
    let d_low : 128 ≤ d = leb-true 128 d parts.0 in
    let d_less : d < 192 = ltb-true d 192 parts.1 in
    let d_high : d ≤ 191 = omega (arith, d_less) in
    let are = first_three a b small_a small_b is in
    let a_high : a ≤ 239 = omega (arith, are.a_high) in
    let c : ℕ = ((a - 224) * 64 + (b - 128)) * 64 + (d - 128) in
    let far = letter_three a b d ((a - 224) * 64 + (b - 128)) c are d_low d_high is refl refl in
    at_start c 3 bytes (a ∷ b ∷ d ∷ []) (three_is a b d c are.a_low a_high are.b_low are.b_high d_low d_high refl far.big) refl long (three_of bytes long)
    (omega (arith, far.big)) far.small (record { word = words_without_case c far.without; letter = letters_without_case c far.without })
