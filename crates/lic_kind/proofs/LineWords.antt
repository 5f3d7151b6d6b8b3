-- The words of a line, as the iterator over its words gives them.
use Rattle.std.proofs.Common.{◌≡◌, ℕ, ◌<◌, Bool, true, false, cond, not, nat_lt, ◌&&◌, List, [], ◌∷◌, ◌++◌, length, refl, sym, ap, subst, ◌∙◌, arith, append-nil}
use Rattle.std.specs.Prelude.{filter}
use Rattle.std.specs.Char.{is_whitespace, is_not_whitespace, encode_utf8}
use Rattle.std.specs.Str.{chars, IsUtf8, encode_utf8_all, NonePass, NoCharPasses, EmptyOrStartsWithPassing}
use Rattle.std.specs.Str.{all_scalars}
use Rattle.std.specs.List.{slice_split, onto_first}
use Rattle.std.proofs.lemmas.Bool.Decides.{nat_tests}
use Rattle.std.proofs.lemmas.List.{append_assoc}
use Rattle.std.proofs.lemmas.List.Splits.{slice_split-cons_yes, slice_split-cons_no}
use Rattle.std.proofs.lemmas.Str.{chars_past_char, IsUtf8-past_char, chars-nil, chars-encodes, scalars-chars}
use Rattle.lic_kind.specs.RuleFiles.{words_of}

-- ---- of characters

not_false : (b : Bool) → not b ≡ false → b ≡ true
not_false true e = refl
not_false false e = sym e

abbrev is_some : List ℕ → Bool
is_some word = nat_lt 0 (length word)

-- white space before a text is in no word
skip_white : (gap text : List ℕ) → NonePass is_not_whitespace gap → words_of (gap ++ text) ≡ words_of text
skip_white [] text none = refl
skip_white (c ∷ gap) text none =
    ap (filter is_some) (slice_split-cons_yes is_whitespace c (gap ++ text) (not_false (is_whitespace c) none.0))
    ∙ skip_white gap text none.1

white_alone : (gap : List ℕ) → NonePass is_not_whitespace gap → words_of gap ≡ []
white_alone [] none = refl
white_alone (c ∷ gap) none =
    ap (filter is_some) (slice_split-cons_yes is_whitespace c gap (not_false (is_whitespace c) none.0))
    ∙ white_alone gap none.1

-- a word, and after it a text whose first part is empty
parted : (word text : List ℕ) (parts : List (List ℕ)) → NonePass is_whitespace word → slice_split is_whitespace text ≡ [] ∷ parts
    → slice_split is_whitespace (word ++ text) ≡ word ∷ parts
parted [] text parts none split = split
parted (c ∷ word) text parts none split =
    slice_split-cons_no is_whitespace c (word ++ text) none.0
    ∙ ap (onto_first c) (parted word text parts none.1 split)

word_first : (word text : List ℕ) (parts : List (List ℕ)) → 0 < length word → NonePass is_whitespace word → slice_split is_whitespace text ≡ [] ∷ parts
    → words_of (word ++ text) ≡ word ∷ words_of text
word_first word text parts some none split =
    let here : is_some word ≡ true = grind (arith, nat_tests) in
    ap (filter is_some) (parted word text parts none split)
    ∙ ap (λ b. cond b (word ∷ filter is_some parts) (filter is_some parts)) here
    ∙ ap (λ ws. word ∷ ws) (sym (ap (filter is_some) split))

-- ---- of texts in UTF-8

-- characters before a text
front : (cs rest text : List ℕ) → IsUtf8 text → text ≡ encode_utf8_all cs ++ rest → (chars text ≡ cs ++ chars rest) × IsUtf8 rest
front [] rest text utf8 is = (ap chars is, subst IsUtf8 is utf8)
front (c ∷ cs) rest text utf8 is =
    let here = is ∙ append_assoc (encode_utf8 c) (encode_utf8_all cs) rest in
    let later = front cs rest (encode_utf8_all cs ++ rest) (IsUtf8-past_char text (encode_utf8_all cs ++ rest) c utf8 here) refl in
    (chars_past_char text (encode_utf8_all cs ++ rest) c utf8 here ∙ ap (λ l. c ∷ l) later.0, later.1)

first_true : (a b : Bool) → (a && b) ≡ true → a ≡ true
first_true true b e = refl
first_true false b e = e

then_true : (a b : Bool) → a ≡ true → b ≡ true → (a && b) ≡ true
then_true true b e f = f
then_true false b e f = e

last_true : (a b : Bool) → (a && b) ≡ true → b ≡ true
last_true true b e = e
last_true false b e = absurd (let h : false ≡ true = e in cc)

scalars_front : (cs ds : List ℕ) → all_scalars (cs ++ ds) ≡ true → all_scalars cs ≡ true
scalars_front [] ds e = refl
scalars_front (c ∷ cs) ds e = then_true _ (all_scalars cs) (first_true _ (all_scalars (cs ++ ds)) e)
    (scalars_front cs ds (last_true _ (all_scalars (cs ++ ds)) e))

-- a text that is empty or begins in white space: its first part is empty
white_following : (text more : List ℕ) → IsUtf8 text → EmptyOrStartsWithPassing is_whitespace text more
    → (parts : List (List ℕ)) × (slice_split is_whitespace (chars text) ≡ [] ∷ parts)
white_following [] more utf8 starts = ([], ap (slice_split is_whitespace) chars-nil)
white_following (b ∷ text) more utf8 starts =
    let c = starts (omega arith) in (
      slice_split is_whitespace (chars more),
      ap (slice_split is_whitespace) (chars_past_char (b ∷ text) more c.0 utf8 c.2) ∙ slice_split-cons_yes is_whitespace c.0 (chars more) c.1,
    )

some_chars : (cs : List ℕ) → 0 < length (encode_utf8_all cs) → 0 < length cs
some_chars [] some = some
some_chars (c ∷ cs) some = omega arith

-- a word that comes after white space, and before white space or the end
pub next_word : (text word rest : List ℕ) → IsUtf8 text
    → ((gap : List ℕ) × (text ≡ gap ++ (word ++ rest)) × (0 < length word) × NoCharPasses is_not_whitespace gap
    × NoCharPasses is_whitespace word × ((more : List ℕ) × EmptyOrStartsWithPassing is_whitespace rest more))
    → (words_of (chars text) ≡ chars word ∷ words_of (chars rest)) × IsUtf8 rest
next_word text word rest utf8 (gap, is, some, white, dark, (more, starts)) =
    let before = front white.0 (word ++ rest) text utf8 (is ∙ ap (λ l. l ++ (word ++ rest)) (sym white.1)) in
    let following = front dark.0 rest (word ++ rest) before.1 (ap (λ l. l ++ rest) (sym dark.1)) in
    let scalars : all_scalars dark.0 ≡ true = scalars_front dark.0 (chars rest) (sym (ap all_scalars following.0) ∙ scalars-chars (word ++ rest) before.1) in
    let read : chars word ≡ dark.0 = sym (ap chars dark.1) ∙ chars-encodes dark.0 scalars in
    let long : 0 < length dark.0 = some_chars dark.0 (subst (λ l. 0 < length l) (sym dark.1) some) in
    let split = white_following rest more following.1 starts in (
      ap words_of before.0 ∙ skip_white white.0 (chars (word ++ rest)) white.2
          ∙ ap words_of following.0 ∙ word_first dark.0 (chars rest) split.0 long dark.2 split.1
          ∙ ap (λ w. w ∷ words_of (chars rest)) (sym read),
      following.1,
    )

-- a text of white space alone
pub no_word : (text : List ℕ) → IsUtf8 text → NoCharPasses is_not_whitespace text → words_of (chars text) ≡ []
no_word text utf8 white =
    let before = front white.0 [] text utf8 (sym white.1 ∙ sym (append-nil (encode_utf8_all white.0))) in
    ap words_of (before.0 ∙ ap (λ l. white.0 ++ l) chars-nil ∙ append-nil white.0) ∙ white_alone white.0 white.2
