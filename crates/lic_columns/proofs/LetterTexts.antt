-- The letters of simple characters: what of them is beyond ASCII is of words.
use Rattle.std.proofs.Common.{◌≡◌, ℕ, zero, suc, ◌<◌, ◌≤◌, false, List, [], ◌∷◌, ◌++◌, All, map, replicate, inl, inr, refl, sym, ap, ap₂, subst, ◌∙◌, arith}
use Rattle.std.specs.Prelude.{nat_lt, chars, IsAscii, IsUtf8, encode_utf8_all}
use Rattle.std.specs.Char.{len_utf8}
use Rattle.std.specs.List.{AllByRecursion}
use Rattle.std.proofs.lemmas.Bool.{cases_Bool, cases_lt, cond-true, cond-false, lt-ltb, ltb-true}
use Rattle.std.proofs.lemmas.List.{map-append}
use Rattle.std.proofs.lemmas.List.Elements.{All-head, All-tail}
use Rattle.std.proofs.lemmas.Str.{IsUtf8-append, IsUtf8-from_ascii, IsUtf8-nil, chars_from_encodes, encode_ascii, encodes-append}
use Rattle.std.proofs.lemmas.Str.Ascii.{IsAscii-cons, IsAscii-nil}
use Rattle.lic_kind.specs.declared.Kind.TheVariants as kind
use Rattle.lic_kind.specs.Kinds.{kind_of, spell}
use Rattle.lic_kind.proofs.LetterLemmas.{word_letters}
use Rattle.lic_letters.specs.Bytes.{letter}
use Rattle.lic_columns.specs.PlainLines.{IsOfWord}
use Rattle.lic_letters.specs.Simple.{IsSimple, IsSimpleLetter, AreSimple, in_place, in_place_of, all_in_place}
use Rattle.lic_columns.proofs.AsciiLetters.{letter_low, letters_ascii}
use Rattle.lic_columns.proofs.Borders.{mark_low}
use Rattle.lic_letters.proofs.InPlace.{letter_in_place}
use Rattle.lic_columns.proofs.WideTexts.{mark_shape, own_letters}

-- ---- bytes of a character beyond ASCII

not_below : (b : ℕ) → 128 ≤ b → nat_lt b 128 ≡ false
not_below b high = elim (cases_Bool (nat_lt b 128)) [
  | inl below ↦ absurd (let low : b < 128 = ltb-true b 128 below in omega (arith, low, high))
  | inr none ↦ none
]

-- ---- letters as characters

-- the letters of these bytes are a text, of which the characters beyond ASCII are of words
abbrev HaveWords : List ℕ → Type 0
HaveWords spelled = (ds : List ℕ) × (map letter spelled ≡ encode_utf8_all ds) × AllByRecursion IsOfWord ds × IsUtf8 (map letter spelled)

low_ascii : (n d : ℕ) → d < 128 → IsAscii (replicate n d)
low_ascii zero d low = IsAscii-nil
low_ascii (suc n) d low = IsAscii-cons d (replicate n d) low (low_ascii n d low)

low_words : (n d : ℕ) → d < 128 → HaveWords (replicate n d)
low_words zero d low = ([], refl, tt, IsUtf8-nil)
low_words (suc n) d low =
    let rest = low_words n d low in
    let small = letter_low d low in (
      letter d ∷ rest.0,
      ap₂ (λ k l. k ++ l) (sym (encode_ascii (letter d) small)) rest.1,
      (λ big. absurd (omega (arith, big, small)), rest.2),
      IsUtf8-from_ascii (map letter (replicate (suc n) d)) (letters_ascii (replicate (suc n) d) (low_ascii (suc n) d low)),
    )

big_in_place : (c : ℕ) → 128 ≤ c → in_place c ≡ in_place_of (kind_of c) c
big_in_place c big = cond-false (nat_lt c 128) (c ∷ []) (in_place_of (kind_of c) c) (not_below c big)

of_words : (ds : List ℕ) → All (λ d. kind_of d ≡ kind.Word) ds → AllByRecursion IsOfWord ds
of_words [] words = tt
of_words (d ∷ ds) words =
    (λ high. All-head (λ e. kind_of e ≡ kind.Word) d ds words, of_words ds (All-tail (λ e. kind_of e ≡ kind.Word) d ds words))

letter_words : (c : ℕ) → 128 ≤ c → IsSimpleLetter c → HaveWords (in_place c)
letter_words c big is =
    let same : map letter (in_place c) ≡ encode_utf8_all (spell c) =
    ap (map letter) (letter_in_place c big is.word) ∙ own_letters (encode_utf8_all (spell c)) is.own in
    (spell c, same, of_words (spell c) (word_letters c is.word), subst IsUtf8 (sym same) is.utf8)

simple_words : (c : ℕ) → IsSimple c → HaveWords (in_place c)
simple_words c simple = elim (cases_lt c 128) [
  | inl small ↦ subst HaveWords (sym (cond-true (nat_lt c 128) (c ∷ []) (in_place_of (kind_of c) c) (lt-ltb c 128 small))) (low_words 1 c small)
  | inr big ↦ elim simple [
    | inl small ↦ absurd (omega (arith, small, big))
    | inr other ↦ elim other [
      | inl is ↦ letter_words c big is
      | inr more ↦ elim more [
        | inl blank ↦ subst HaveWords (sym (big_in_place c big ∙ ap (λ k. in_place_of k c) blank)) (low_words (len_utf8 c) 0x20 (omega arith))
        | inr is ↦ let shape = mark_shape c big is in subst HaveWords (sym shape.own) (low_words (len_utf8 c) shape.letter (mark_low shape.letter shape.mark))
      ]
    ]
  ]
]

all_words : (cs : List ℕ) → AreSimple cs → HaveWords (all_in_place cs)
all_words [] are = ([], refl, tt, IsUtf8-nil)
all_words (c ∷ cs) are =
    let here = simple_words c are.0 in
    let rest = all_words cs are.2 in
    let parts : map letter (all_in_place (c ∷ cs)) ≡ map letter (in_place c) ++ map letter (all_in_place cs) = map-append letter (in_place c) (all_in_place cs) in (
      here.0 ++ rest.0,
      parts ∙ ap₂ (λ k l. k ++ l) here.1 rest.1 ∙ sym (encodes-append here.0 rest.0),
      both here.0 rest.0 here.2 rest.2,
      subst IsUtf8 (sym parts) (IsUtf8-append (map letter (in_place c)) (map letter (all_in_place cs)) here.3 rest.3),
    )
  where
    both : (xs ys : List ℕ) → AllByRecursion IsOfWord xs → AllByRecursion IsOfWord ys → AllByRecursion IsOfWord (xs ++ ys)
    both [] ys h k = k
    both (x ∷ xs) ys h k = (h.0, both xs ys h.1 k)

pub letters_of_words : (cs letters : List ℕ) → AreSimple cs → IsUtf8 letters → letters ≡ map letter (all_in_place cs) → AllByRecursion IsOfWord (chars letters)
letters_of_words cs letters are utf8 is =
    let words = all_words cs are in
    subst (AllByRecursion IsOfWord) (chars_from_encodes words.0 letters utf8 (sym (is ∙ words.1))) words.2

pub letters_are_utf8 : (cs : List ℕ) → AreSimple cs → IsUtf8 (map letter (all_in_place cs))
letters_are_utf8 cs are = (all_words cs are).3
