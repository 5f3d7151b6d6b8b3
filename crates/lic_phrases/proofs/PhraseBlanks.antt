-- Each token of a phrase has a letter, and none holds a blank: its letters are those of marks and of word characters.
use Rattle.std.proofs.Common.{◌≡◌, ◌≢◌, ℕ, Bool, true, false, cond, ◌&&◌, ◌==◌, if◌then◌else◌, List, [], ◌∷◌, ◌++◌, map, codes, encode_utf8_all, refl, sym, ap, ◌∙◌, arith, nat_le, nat_lt, length, ◌<◌, length-append}
use Rattle.std.specs.Char.{encode_utf8}
use Rattle.std.proofs.lemmas.List.Elements.{recursion_from_All}
use Rattle.std.proofs.lemmas.Str.{length-le-encodes}
use Rattle.std.specs.List.{flat_map, AllByRecursion}
use Rattle.lic_kind.specs.declared.Kind.{Kind}
use Rattle.lic_kind.specs.declared.Kind.TheVariants as kind
use Rattle.lic_kind.specs.Kinds.{kind_of, is_mark_kind, is_word_kind, spell}
use Rattle.lic_kind.proofs.LetterLemmas.{spell-Mark, mark_letters, word_has_letters, word_letters}
use Rattle.lic_lines.specs.declared.cell.Cell.{Cell}
use Rattle.lic_lines.specs.declared.cell.Cell.TheVariants.{Blank, Mark, Word}
use Rattle.lic_trim.specs.declared.source.SourceChar.{SourceChar}
use Rattle.lic_trim.specs.Sources.{unplaced, without_dropped}
use Rattle.lic_trim.specs.Texts.{groups, join_group}
use Rattle.lic_lines.specs.Cells.{cell_of}
use Rattle.lic_lines.specs.Streaks.{without_separator, without_separators, joined, with_joined, same_mark, same_family}
use Rattle.lic_lines.specs.Tokens.{Token, both_words, letters_of, tokens_from, first_tokens, is_text, is_sign_in_parentheses, as_sign, sign_from, single_signs}
use Rattle.lic_phrases.specs.Keys.{HasNoBlank, HaveNoBlank}
use Rattle.lic_phrases.specs.Rewriting.{both_signs, sign_of_sequence, sign_sequences, begins_authority, https_as_http}
use Rattle.lic_phrases.specs.WordLists.{texts_of, phrase_texts}

-- each element has the property
abbrev Each : {A : Type 0} → (A → Type 0) → List A → Type 0
Each P [] = Unit {0}
Each P (x ∷ xs) = P x × Each P xs

each-append : {A : Type 0} (P : A → Type 0) (xs ys : List A) → Each P xs → Each P ys → Each P (xs ++ ys)
each-append P [] ys left right = right
each-append P (x ∷ xs) ys left right = (left.0, each-append P xs ys left.1 right)

each-flat_map : {A B : Type 0} (P : A → Type 0) (Q : B → Type 0) (f : A → List B) → ((x : A) → P x → Each Q (f x))
    → (xs : List A) → Each P xs → Each Q (flat_map f xs)
each-flat_map P Q f step [] known = tt
each-flat_map P Q f step (x ∷ xs) known = each-append Q (f x) (flat_map f xs) (step x known.0) (each-flat_map P Q f step xs known.1)

each-cond : {A : Type 0} (P : A → Type 0) (b : Bool) (x y : A) → P x → P y → P (cond b x y)
each-cond P true x y left right = left
each-cond P false x y left right = right

each-join_group : {A : Type 0} (P : A → Type 0) (together : A → A → Bool) (x : A) (gs : List (List A)) → P x
    → Each (Each P) gs → Each (Each P) (join_group together x gs)
each-join_group P together x [] here known = ((here, tt), tt)
each-join_group P together x ([] ∷ gs) here known = ((here, tt), known)
each-join_group P together x ((y ∷ g) ∷ gs) here known =
    each-cond (Each (Each P)) (together x y) ((x ∷ y ∷ g) ∷ gs) ((x ∷ []) ∷ (y ∷ g) ∷ gs) ((here, known.0), known.1) ((here, tt), known)

each-groups : {A : Type 0} (P : A → Type 0) (together : A → A → Bool) (xs : List A) → Each P xs → Each (Each P) (groups together xs)
each-groups P together [] known = tt
each-groups P together (x ∷ xs) known = each-join_group P together x (groups together xs) known.0 (each-groups P together xs known.1)

-- ---- cells

-- a cell has a character of its kind
abbrev IsSound : Cell → Type 0
IsSound Blank = Unit {0}
IsSound (Mark s) = kind_of s.char ≡ kind.Mark
IsSound (Word s) = kind_of s.char ≡ kind.Word

by_kind : (s : SourceChar) (k : Kind) → kind_of s.char ≡ k → IsSound (if is_word_kind k then Word s else (if is_mark_kind k then Mark s else Blank))
by_kind s kind.Blank is = tt
by_kind s kind.Dropped is = tt
by_kind s kind.Mark is = is
by_kind s kind.Word is = is

cell_of-sound : (s : SourceChar) → IsSound (cell_of s)
cell_of-sound s = by_kind s (kind_of s.char) refl

cells-sound : (cs : List SourceChar) → Each IsSound (map cell_of cs)
cells-sound [] = tt
cells-sound (s ∷ cs) = (cell_of-sound s, cells-sound cs)

without_separator-sound : (streak : List Cell) → Each IsSound streak → Each IsSound (without_separator streak)
without_separator-sound [] known = tt
without_separator-sound (Blank ∷ streak) known = known
without_separator-sound (Mark s ∷ streak) known = each-cond (Each IsSound) (nat_le 2 (length streak)) (Blank ∷ []) (Mark s ∷ streak) (tt, tt) known
without_separator-sound (Word s ∷ streak) known = known

joined-sound : (streak : List Cell) → Each IsSound streak → Each IsSound (joined streak)
joined-sound [] known = tt
joined-sound (Blank ∷ streak) known = known
joined-sound (Mark s ∷ streak) known = (known.0, tt)
joined-sound (Word s ∷ streak) known = known

-- ---- letters

blank_kind : kind_of 0x20 ≡ kind.Blank
unfolding kind_of
blank_kind = refl

each-from_recursion : {A : Type 0} (P Q : A → Type 0) → ((x : A) → P x → Q x) → (xs : List A) → AllByRecursion P xs → Each Q xs
each-from_recursion P Q weaker [] known = tt
each-from_recursion P Q weaker (x ∷ xs) known = (weaker x known.0, each-from_recursion P Q weaker xs known.1)

mark_no_blank : (d : ℕ) → kind_of d ≡ kind.Mark → d ≢ 0x20
mark_no_blank d is = λ same. let two : kind.Mark ≡ kind.Blank = sym is ∙ ap kind_of same ∙ blank_kind in absurd cc

word_no_blank : (d : ℕ) → kind_of d ≡ kind.Word → d ≢ 0x20
word_no_blank d is = λ same. let two : kind.Word ≡ kind.Blank = sym is ∙ ap kind_of same ∙ blank_kind in absurd cc

letters_of-no_blank : (cells : List Cell) → Each IsSound cells → Each (λ d. d ≢ 0x20) (letters_of cells)
letters_of-no_blank [] known = tt
letters_of-no_blank (Blank ∷ cells) known = letters_of-no_blank cells known.1
letters_of-no_blank (Mark s ∷ cells) known =
    each-append (λ d. d ≢ 0x20) (spell s.char) (letters_of cells)
    (each-from_recursion (λ d. kind_of d ≡ kind.Mark) (λ d. d ≢ 0x20) mark_no_blank (spell s.char)
    (recursion_from_All (λ d. kind_of d ≡ kind.Mark) (spell s.char) (mark_letters s.char known.0)))
    (letters_of-no_blank cells known.1)
letters_of-no_blank (Word s ∷ cells) known =
    each-append (λ d. d ≢ 0x20) (spell s.char) (letters_of cells)
    (each-from_recursion (λ d. kind_of d ≡ kind.Word) (λ d. d ≢ 0x20) word_no_blank (spell s.char)
    (recursion_from_All (λ d. kind_of d ≡ kind.Word) (spell s.char) (word_letters s.char known.0)))
    (letters_of-no_blank cells known.1)

no_blank-append : (xs ys : List ℕ) → HasNoBlank xs → HasNoBlank ys → HasNoBlank (xs ++ ys)
no_blank-append [] ys left right = right
no_blank-append (x ∷ xs) ys left right = (left.0, no_blank-append xs ys left.1 right)

encode_utf8-no_blank : (c : ℕ) → c ≢ 0x20 → HasNoBlank (encode_utf8 c)
unfolding encode_utf8
encode_utf8-no_blank c other =
    each-cond HasNoBlank (nat_lt c 128) _ _ (other, tt)
    (each-cond HasNoBlank (nat_lt c 2048) _ _ ((λ e. omega arith), ((λ e. omega arith), tt))
    (each-cond HasNoBlank (nat_lt c 65536) _ _ ((λ e. omega arith), ((λ e. omega arith), ((λ e. omega arith), tt)))
    ((λ e. omega arith), ((λ e. omega arith), ((λ e. omega arith), ((λ e. omega arith), tt))))))

encoded_no_blank : (cs : List ℕ) → Each (λ d. d ≢ 0x20) cs → HasNoBlank (encode_utf8_all cs)
encoded_no_blank [] known = tt
encoded_no_blank (c ∷ cs) known = no_blank-append (encode_utf8 c) (encode_utf8_all cs) (encode_utf8-no_blank c known.0) (encoded_no_blank cs known.1)

-- ---- tokens

-- the text has a letter and no blank
abbrev pub IsSolid : List ℕ → Type 0
IsSolid text = (0 < length text) × HasNoBlank text

-- so for each of these texts
abbrev pub AreSolid : List (List ℕ) → Type 0
AreSolid [] = Unit {0}
AreSolid (text ∷ texts) = IsSolid text × AreSolid texts

abbrev IsPlain : Token → Type 0
IsPlain t = IsSolid t.text

encoded_solid : (cs : List ℕ) → 0 < length cs → Each (λ d. d ≢ 0x20) cs → IsSolid (encode_utf8_all cs)
encoded_solid cs some known = (omega (arith, length-le-encodes cs, some), encoded_no_blank cs known)

tokens_from-plain : (after_blank : Bool) (gs : List (List Cell)) → Each (Each IsSound) gs → Each IsPlain (tokens_from after_blank gs)
tokens_from-plain after_blank [] known = tt
tokens_from-plain after_blank ([] ∷ gs) known = tokens_from-plain after_blank gs known.1
tokens_from-plain after_blank ((Blank ∷ cells) ∷ gs) known = tokens_from-plain true gs known.1
tokens_from-plain after_blank ((Mark s ∷ cells) ∷ gs) known = (
  encoded_solid (letters_of (Mark s ∷ cells))
      (omega (arith, length-append (spell s.char) (letters_of cells), ap length (spell-Mark s.char known.0.0)))
      (letters_of-no_blank (Mark s ∷ cells) known.0),
  tokens_from-plain false gs known.1,
)
tokens_from-plain after_blank ((Word s ∷ cells) ∷ gs) known = (
  encoded_solid (letters_of (Word s ∷ cells))
      (omega (arith, length-append (spell s.char) (letters_of cells), word_has_letters s.char known.0.0))
      (letters_of-no_blank (Word s ∷ cells) known.0),
  tokens_from-plain false gs known.1,
)

-- a text that is written out
tested : (text : List ℕ) → Each (λ b. (b == 0x20) ≡ false) text → HasNoBlank text
tested [] known = tt
tested (b ∷ text) known = ((λ same. let two : true ≡ false = sym (ap (λ n. n == 0x20) same) ∙ known.0 in absurd cc), tested text known.1)

copyright_plain : IsSolid (codes "copyright")
copyright_plain = (omega arith, tested (codes "copyright") (refl, (refl, (refl, (refl, (refl, (refl, (refl, (refl, (refl, tt))))))))))

http_plain : IsSolid (codes "http")
http_plain = (omega arith, tested (codes "http") (refl, (refl, (refl, (refl, tt)))))

as_sign-plain : (t : Token) → IsPlain t → IsPlain (as_sign t)
as_sign-plain t known = each-cond IsPlain (is_text (encode_utf8_all (0xA9 ∷ [])) t) (record t { text = codes "copyright" }) t copyright_plain known

single_signs-plain : (ts : List Token) → Each IsPlain ts → Each IsPlain (single_signs ts)
single_signs-plain [] known = tt
single_signs-plain (a ∷ []) known = (as_sign-plain a known.0, tt)
single_signs-plain (a ∷ b ∷ []) known = (as_sign-plain a known.0, (as_sign-plain b known.1.0, tt))
single_signs-plain (a ∷ b ∷ c ∷ ts) known =
    each-cond (Each IsPlain) (is_sign_in_parentheses a b c) (sign_from a c ∷ single_signs ts) (as_sign a ∷ single_signs (b ∷ c ∷ ts))
    (copyright_plain, single_signs-plain ts known.1.1.1) (as_sign-plain a known.0, single_signs-plain (b ∷ c ∷ ts) known.1)

sign_of_sequence-plain : (ts : List Token) → Each IsPlain ts → Each IsPlain (sign_of_sequence ts)
sign_of_sequence-plain [] known = tt
sign_of_sequence-plain (t ∷ ts) known = (known.0, tt)

https_as_http-plain : (ts : List Token) → Each IsPlain ts → Each IsPlain (https_as_http ts)
https_as_http-plain [] known = tt
https_as_http-plain (t ∷ ts) known =
    (each-cond IsPlain (is_text (codes "https") t && begins_authority ts) (record t { text = codes "http" }) t http_plain known.0, https_as_http-plain ts known.1)

texts_of-plain : (ts : List Token) → Each IsPlain ts → AreSolid (texts_of ts)
texts_of-plain [] known = tt
texts_of-plain (t ∷ ts) known = (known.0, texts_of-plain ts known.1)

pub phrase_is_solid : (cs : List ℕ) → AreSolid (phrase_texts cs)
phrase_is_solid cs =
    let cells = map cell_of (without_dropped (unplaced cs)) in
    let parted = without_separators cells in
    let joint = with_joined parted in
    let sound = cells-sound (without_dropped (unplaced cs)) in
    let parted_sound = each-flat_map (Each IsSound) IsSound without_separator without_separator-sound
    (groups same_mark cells) (each-groups IsSound same_mark cells sound) in
    let joint_sound = each-flat_map (Each IsSound) IsSound joined joined-sound (groups same_family parted)
    (each-groups IsSound same_family parted parted_sound) in
    let signs = single_signs (first_tokens joint) in
    let plain = single_signs-plain (first_tokens joint) (tokens_from-plain true (groups both_words joint) (each-groups IsSound both_words joint joint_sound)) in
    let sequences = each-flat_map (Each IsPlain) IsPlain sign_of_sequence sign_of_sequence-plain (groups both_signs signs) (each-groups IsPlain both_signs signs plain) in
    texts_of-plain (https_as_http (sign_sequences signs)) (https_as_http-plain (sign_sequences signs) sequences)

solid_no_blank : (texts : List (List ℕ)) → AreSolid texts → HaveNoBlank texts
solid_no_blank [] known = tt
solid_no_blank (text ∷ texts) known = (known.0.1, solid_no_blank texts known.1)

pub phrase_has_no_blank : (cs : List ℕ) → HaveNoBlank (phrase_texts cs)
phrase_has_no_blank cs = solid_no_blank (phrase_texts cs) (phrase_is_solid cs)
