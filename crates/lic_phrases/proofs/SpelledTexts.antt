-- A spelling of tokens without blanks is the text of a token: it has a blank only between two letters of kind Word.
use Rattle.std.proofs.Common.{◌≡◌, ℕ, ◌<◌, Bool, true, false, List, [], ◌∷◌, ◌++◌, length, get_or, drop, reverse, String, string_bytes, refl, sym, ap, ap₂, subst, ◌∙◌, arith, append-nil, length-append, All, IsTrue}
use Rattle.std.specs.Str.{chars, IsUtf8}
use Rattle.std.proofs.lemmas.Bool.{and_parts}
use Rattle.std.proofs.lemmas.List.{reverse-append}
use Rattle.std.proofs.lemmas.List.Elements.{All-get_or, All-from_get_or}
use Rattle.std.proofs.lemmas.Str.{IsUtf8-encode, IsUtf8-string_bytes, chars-append, encode_ascii}
use Rattle.lic_phrases.specs.Keys.{HasNoBlank, texts_in}
use Rattle.lic_phrases.specs.Listed.{HaveRepresentatives, with_representatives}
use Rattle.lic_phrases.specs.Rewriting.{Phrase}
use Rattle.lic_phrases.specs.Spelling.{first_is_word, begins_in_word, ends_in_word, is_parted, blank_if, spelled}
use Rattle.lic_phrases.specs.TokenTexts.{IsTokenText, HaveTokenTexts}
use Rattle.lic_phrases.specs.WordLists.{phrase_texts}
use Rattle.lic_phrases.proofs.PhraseBlanks.{AreSolid, phrase_is_solid}
use Rattle.lic_phrases.proofs.RepresentativeLemmas.{no_phrase, length-with_representatives, word_at}

-- each of these texts is UTF-8
abbrev AreUtf8 : List (List ℕ) → Type 0
AreUtf8 [] = Unit {0}
AreUtf8 (text ∷ texts) = IsUtf8 text × AreUtf8 texts

texts_in-utf8 : {A : Type 0} (texts : List (String A)) → AreUtf8 (texts_in texts)
texts_in-utf8 [] = tt
texts_in-utf8 (text ∷ texts) = (IsUtf8-string_bytes text, texts_in-utf8 texts)

-- ---- where a blank is

no_blank_inside : (front rest : List ℕ) → HasNoBlank (front ++ 0x20 ∷ rest) → ⊥
no_blank_inside [] rest known = known.0 refl
no_blank_inside (c ∷ front) rest known = no_blank_inside front rest known.1

-- a blank that comes after a text without one
blank_after : (text tail front rest : List ℕ) → HasNoBlank text → text ++ tail ≡ front ++ 0x20 ∷ rest
    → (past : List ℕ) × (front ≡ text ++ past) × (tail ≡ past ++ 0x20 ∷ rest)
blank_after [] tail front rest known same = (front, refl, same)
blank_after (c ∷ text) tail [] rest known same = absurd (known.0 (ap (λ l. get_or l 0 0) same))
blank_after (c ∷ text) tail (d ∷ front) rest known same =
    let later = blank_after text tail front rest known.1 (ap (drop 1) same) in
    (later.0, ap₂ (λ x xs. x ∷ xs) (sym (ap (λ l. get_or l 0 0) same)) later.1, later.2)

-- ---- the letters beside it

first_of_front : (xs ys : List ℕ) → IsTrue (first_is_word xs) → IsTrue (first_is_word (xs ++ ys))
first_of_front [] ys word = absurd (let h : false ≡ true = word in cc)
first_of_front (x ∷ xs) ys word = word

ends_after : (text past : List ℕ) → IsUtf8 text → IsTrue (ends_in_word past) → IsTrue (ends_in_word (text ++ past))
ends_after text past utf8 word =
    subst (λ l. IsTrue (first_is_word l)) (sym (ap reverse (chars-append text past utf8) ∙ reverse-append (chars text) (chars past)))
    (first_of_front (reverse (chars past)) (reverse (chars text)) word)

begins_before : (text past : List ℕ) → IsUtf8 text → IsTrue (begins_in_word text) → IsTrue (begins_in_word (text ++ past))
begins_before text past utf8 word =
    subst (λ l. IsTrue (first_is_word l)) (sym (chars-append text past utf8))
    (first_of_front (chars text) (chars past) word)

spelled_begins : (text : List ℕ) (texts : List (List ℕ)) → IsUtf8 text → IsTrue (begins_in_word text) → IsTrue (begins_in_word (spelled (text ∷ texts)))
spelled_begins text [] utf8 word = word
spelled_begins text (next ∷ texts) utf8 word = begins_before text (blank_if (is_parted text next) ++ spelled (next ∷ texts)) utf8 word

-- ---- spellings

blank_utf8 : IsUtf8 (0x20 ∷ [])
blank_utf8 = subst IsUtf8 (encode_ascii 0x20 (omega arith)) (IsUtf8-encode 0x20 refl)

-- the letters beside a blank that comes after the first text
beside_blank : (text next : List ℕ) (texts : List (List ℕ)) (rest : List ℕ) → IsUtf8 text → IsUtf8 next
    → IsTokenText (spelled (next ∷ texts)) → (parted : Bool)
    → (parted ≡ true → IsTrue (ends_in_word text) × IsTrue (begins_in_word next))
    → (past : List ℕ) → blank_if parted ++ spelled (next ∷ texts) ≡ past ++ 0x20 ∷ rest
    → IsTrue (ends_in_word (text ++ past)) × IsTrue (begins_in_word rest)
beside_blank text next texts rest utf8 next_utf8 later true words [] same = (
  subst (λ l. IsTrue (ends_in_word l)) (sym (append-nil text)) (words refl).0,
  subst (λ l. IsTrue (begins_in_word l)) (ap (drop 1) same) (spelled_begins next texts next_utf8 (words refl).1),
)
beside_blank text next texts rest utf8 next_utf8 later true words (d ∷ past) same =
    let beside = later.blanks past rest (ap (drop 1) same) in (
      subst (λ c. IsTrue (ends_in_word (text ++ c ∷ past))) (ap (λ l. get_or l 0 0) same)
          (ends_after text (0x20 ∷ past) utf8 (ends_after (0x20 ∷ []) past blank_utf8 beside.0)),
      beside.1,
    )
beside_blank text next texts rest utf8 next_utf8 later false words past same =
    let beside = later.blanks past rest same in
    (ends_after text past utf8 beside.0, beside.1)

spelled_text : (text : List ℕ) (texts : List (List ℕ)) → AreSolid (text ∷ texts) → AreUtf8 (text ∷ texts) → IsTokenText (spelled (text ∷ texts))
spelled_text text [] solid utf8 = record {
  not_empty = solid.0.0;
  blanks = λ front rest parts. absurd (no_blank_inside front rest (subst HasNoBlank parts solid.0.1));
}
spelled_text text (next ∷ texts) solid utf8 =
    let later = spelled_text next texts solid.1 utf8.1 in
    let tail = blank_if (is_parted text next) ++ spelled (next ∷ texts) in
    record {
      not_empty = omega (arith, length-append text tail, solid.0.0);
      blanks = λ front rest parts.
          let cut = blank_after text tail front rest solid.0.1 parts in
          let beside = beside_blank text next texts rest utf8.0 utf8.1.0 later
          (is_parted text next) (λ is. and_parts (ends_in_word text) (begins_in_word next) is) cut.0 cut.2 in
          (subst (λ l. IsTrue (ends_in_word l)) (sym cut.1) beside.0, beside.1);
    }

-- the spelling of a phrase that has tokens
pub phrase_spelling : {A : Type 0} (texts : List (String A)) (cs spelling : List ℕ) → texts_in texts ≡ phrase_texts cs
    → 0 < length texts → spelling ≡ spelled (texts_in texts) → IsTokenText spelling
phrase_spelling [] cs spelling are some is = absurd (omega arith)
phrase_spelling (text ∷ texts) cs spelling are some is =
    subst IsTokenText (sym is) (spelled_text (string_bytes text) (texts_in texts)
    (subst AreSolid (sym are) (phrase_is_solid cs)) (texts_in-utf8 (text ∷ texts)))

-- the spellings of the heads of classes
pub with_representatives-texts : (phrases : List (List (List ℕ))) (spellings : List (List ℕ)) (heads : List ℕ)
    → HaveRepresentatives phrases heads → length spellings ≡ length phrases → All IsTokenText spellings
    → HaveTokenTexts (with_representatives phrases spellings heads)
with_representatives-texts phrases spellings heads known as_many texts =
    All-from_get_or (λ p. IsTokenText p.spelling) (with_representatives phrases spellings heads) no_phrase
    (λ i within.
    let inside : i < length phrases = omega (arith, length-with_representatives phrases spellings heads known.as_many) in
    subst (λ (w : Phrase). IsTokenText w.spelling) (sym (word_at phrases spellings heads known.as_many i inside))
    (All-get_or IsTokenText spellings (get_or heads i 0) [] (omega (arith, known.low i inside, as_many)) texts))
