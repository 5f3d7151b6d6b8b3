-- The canonical spelling of tokens spells them.
use Rattle.std.proofs.Common.{◌≡◌, ℕ, ◌<◌, Bool, true, false, ◌==◌, ◌&&◌, List, [], ◌∷◌, ◌++◌, map, length, reverse, ne_eqb, eqb-true, lit<, refl, sym, ap, ◌∙◌, subst, arith, append-nil, All}
use Rattle.std.specs.Str.{chars, IsUtf8}
use Rattle.std.proofs.Math.Utf8.{encodes, scalar, scalars}
use Rattle.std.proofs.lemmas.Bool.{true≢false, and_parts}
use Rattle.std.proofs.lemmas.List.{reverse-append}
use Rattle.std.proofs.lemmas.List.Elements.{All-head, All-tail}
use Rattle.std.proofs.lemmas.Str.{scalars-chars, IsUtf8-encode, IsUtf8-append, IsUtf8-nil, chars-append, chars-nil, chars-encodes, encodes-chars, encodes-append, encode_ascii}
use Rattle.lic_kind.specs.Kinds.{kind_of}
use Rattle.lic_words.specs.Words.{blank}
use Rattle.lic_words.specs.Letters.{is_word}
use Rattle.lic_words.specs.Spelling.{gap_of, gapped_from, sequence_of, last_letter, Spells, SpellsGapped}
use Rattle.lic_words.proofs.Sequences.{gapped_from-blank, gapped_from-letter, last_letter-blank, last_letter-letter}
use Rattle.lic_phrases.specs.Spelling.{first_is_word, begins_in_word, ends_in_word, is_parted, blank_if, spelled}
use Rattle.lic_phrases.specs.TokenTexts.{IsTokenText}

-- ---- letters of tokens

-- each blank has a letter of kind Word after it
abbrev Continues : List ℕ → Type 0
Continues [] = Unit {0}
Continues (c ∷ cs) = (c ≡ blank → first_is_word cs ≡ true) × Continues cs

-- there is a letter, and the first is no blank
abbrev IsSequence : List ℕ → Type 0
IsSequence [] = ⊥
IsSequence (c ∷ cs) = ((c == blank) ≡ false) × Continues cs

abbrev AreSequences : List (List ℕ) → Type 0
AreSequences [] = Unit {0}
AreSequences (t ∷ ts) = IsSequence t × AreSequences ts

blank_no_word : is_word blank ≡ false
unfolding kind_of
blank_no_word = refl

word_no_blank : (c : ℕ) → is_word c ≡ true → (c == blank) ≡ false
word_no_blank c h = ne_eqb c blank (λ e. true≢false (sym h ∙ ap is_word e ∙ blank_no_word))

-- the letters of a token after a letter, or after a blank that a word follows
letters_spell : (last : ℕ) (apart : Bool) (t v sequence : List ℕ) → (apart ≡ true → first_is_word t ≡ true) → Continues t →
    SpellsGapped v (gapped_from (last_letter last t) false sequence) → SpellsGapped (blank_if apart ++ (t ++ v)) (gapped_from last apart (t ++ sequence))
letters_spell last false [] v sequence starts on s = s
letters_spell last true [] v sequence starts on s = absurd (true≢false (sym (starts refl)))
letters_spell last apart (c ∷ t) v sequence starts on s = by_letter (λ l a. letters_spell l a t v sequence) (c == blank) refl apart starts
  where
    by_letter : ((l : ℕ) (a : Bool) → (a ≡ true → first_is_word t ≡ true) → Continues t
        → SpellsGapped v (gapped_from (last_letter l t) false sequence)
        → SpellsGapped (blank_if a ++ (t ++ v)) (gapped_from l a (t ++ sequence))) →
        (b : Bool) → (c == blank) ≡ b → (a : Bool) → (a ≡ true → first_is_word (c ∷ t) ≡ true)
        → SpellsGapped (blank_if a ++ ((c ∷ t) ++ v)) (gapped_from last a ((c ∷ t) ++ sequence))
    by_letter more true h true first = absurd (true≢false (sym h ∙ word_no_blank c (first refl)))
    by_letter more true h false first =
        let is : c ≡ blank = eqb-true c blank h in
        let later : SpellsGapped (blank ∷ (t ++ v)) (gapped_from last true (t ++ sequence)) =
        more last true (λ _. on.0 is) on.1 (subst (λ l. SpellsGapped v (gapped_from l false sequence)) (last_letter-blank last false c t h) s) in
        rw (gapped_from-blank last false c (t ++ sequence) h) (subst (λ d. SpellsGapped (d ∷ (t ++ v)) (gapped_from last true (t ++ sequence))) (sym is) later)
    by_letter more false h a first =
        let later : SpellsGapped (t ++ v) (gapped_from c false (t ++ sequence)) =
        more c false (λ e. absurd (true≢false (sym e))) on.1 (subst (λ l. SpellsGapped v (gapped_from l false sequence)) (last_letter-letter last false c t h) s) in
        rw (gapped_from-letter last a c (t ++ sequence) h) (gap a (is_word last && is_word c) later)
      where
        gap : (a both : Bool) → SpellsGapped (t ++ v) (gapped_from c false (t ++ sequence))
            → SpellsGapped (blank_if a ++ ((c ∷ t) ++ v)) ((gap_of a both, c) ∷ gapped_from c false (t ++ sequence))
        gap false both later = (0, refl, t ++ v, refl, later)
        gap true false later = (1, tt, t ++ v, refl, later)
        gap true true later = (1, omega arith, t ++ v, refl, later)

-- the first letter of a token after another token, with a blank where both letters are of kind Word
token_spells : (last d : ℕ) (t v sequence : List ℕ) → (d == blank) ≡ false → Continues t → SpellsGapped v (gapped_from (last_letter d t) false sequence) →
    SpellsGapped (blank_if (is_word last && is_word d) ++ ((d ∷ t) ++ v)) (gapped_from last true ((d ∷ t) ++ sequence))
token_spells last d t v sequence h on s =
    rw (gapped_from-letter last true d (t ++ sequence) h) (gap (is_word last && is_word d) (letters_spell d false t v sequence (λ e. absurd (true≢false (sym e))) on s))
  where
    gap : (both : Bool) → SpellsGapped (t ++ v) (gapped_from d false (t ++ sequence))
        → SpellsGapped (blank_if both ++ ((d ∷ t) ++ v)) ((gap_of true both, d) ∷ gapped_from d false (t ++ sequence))
    gap false later = (0, tt, t ++ v, refl, later)
    gap true later = (1, omega arith, t ++ v, refl, later)

-- ---- the last letter of a token

first_kept : (xs : List ℕ) (e d : ℕ) → first_is_word ((xs ++ e ∷ []) ++ d ∷ []) ≡ first_is_word (xs ++ e ∷ [])
first_kept [] e d = refl
first_kept (x ∷ xs) e d = refl

last_kept : (d e : ℕ) (t : List ℕ) → first_is_word (reverse (d ∷ e ∷ t)) ≡ first_is_word (reverse (e ∷ t))
last_kept d e t =
    let more : reverse (e ∷ t) ≡ reverse t ++ e ∷ [] = reverse-append (e ∷ []) t in
    ap first_is_word (reverse-append (d ∷ []) (e ∷ t)) ∙ ap (λ l. first_is_word (l ++ d ∷ [])) more ∙ first_kept (reverse t) e d ∙ ap first_is_word (sym more)

ends : (d : ℕ) (t : List ℕ) → Continues t → first_is_word (reverse (d ∷ t)) ≡ is_word (last_letter d t)
ends d [] on = refl
ends d (e ∷ t) on = by_letter (λ l. ends l t on.1) (e == blank) refl
  where
    following_blank : (t : List ℕ) → first_is_word t ≡ true → first_is_word (reverse (e ∷ t)) ≡ first_is_word (reverse (d ∷ t))
    following_blank [] word = absurd (true≢false (sym word))
    following_blank (f ∷ t) word = last_kept e f t ∙ sym (last_kept d f t)

    by_letter : ((l : ℕ) → first_is_word (reverse (l ∷ t)) ≡ is_word (last_letter l t)) → (b : Bool) → (e == blank) ≡ b
        → first_is_word (reverse (d ∷ e ∷ t)) ≡ is_word (last_letter d (e ∷ t))
    by_letter more true h = last_kept d e t ∙ following_blank t (on.0 (eqb-true e blank h)) ∙ more d ∙ ap is_word (sym (last_letter-blank d false e t h))
    by_letter more false h = last_kept d e t ∙ more e ∙ ap is_word (sym (last_letter-letter d false e t h))

-- ---- sequences of tokens

-- `spelled` on letters
abbrev joined : List (List ℕ) → List ℕ
joined [] = []
joined (t ∷ []) = t
joined (t ∷ u ∷ ts) = t ++ (blank_if (first_is_word (reverse t) && first_is_word u) ++ joined (u ∷ ts))

sequences_spell : (last : ℕ) (t : List ℕ) (ts : List (List ℕ)) → IsSequence t → AreSequences ts →
    SpellsGapped (blank_if (is_word last && first_is_word t) ++ joined (t ∷ ts)) (gapped_from last true (t ++ sequence_of ts))
sequences_spell last [] ts sequence sequences = absurd sequence
sequences_spell last (d ∷ t) [] sequence sequences =
    subst (λ l. SpellsGapped (blank_if (is_word last && is_word d) ++ l) (gapped_from last true ((d ∷ t) ++ []))) (append-nil (d ∷ t))
    (token_spells last d t [] [] sequence.0 sequence.1 (0, refl))
sequences_spell last (d ∷ t) (u ∷ us) sequence sequences =
    let l = last_letter d t in
    let v : Bool → List ℕ = λ b. blank_if (b && first_is_word u) ++ joined (u ∷ us) in
    let later : SpellsGapped (v (is_word l)) (gapped_from l true (u ++ sequence_of us)) = sequences_spell l u us sequences.0 sequences.1 in
    token_spells last d t (v (first_is_word (reverse (d ∷ t)))) (sequence_of (u ∷ us)) sequence.0 sequence.1
    (subst (λ b. SpellsGapped (v b) (gapped_from l true (u ++ sequence_of us))) (sym (ends d t sequence.1)) later)

joined_spells : (t : List ℕ) (ts : List (List ℕ)) → IsSequence t → AreSequences ts → Spells (joined (t ∷ ts)) (t ∷ ts)
joined_spells t ts sequence sequences =
    subst (λ b. SpellsGapped (blank_if (b && first_is_word t) ++ joined (t ∷ ts))
    (gapped_from blank true (t ++ sequence_of ts))) blank_no_word (sequences_spell blank t ts sequence sequences)

-- ---- texts in UTF-8

blank_utf8 : IsUtf8 (0x20 ∷ [])
blank_utf8 = subst IsUtf8 (encode_ascii 0x20 (lit< tt)) (IsUtf8-encode 0x20 refl)

chars-blank : chars (0x20 ∷ []) ≡ 0x20 ∷ []
chars-blank = sym (ap (λ l. chars (l ++ [])) (encode_ascii 0x20 (lit< tt))) ∙ chars-encodes (0x20 ∷ []) refl

pub blank_if-utf8 : (b : Bool) → IsUtf8 (blank_if b)
blank_if-utf8 true = blank_utf8
blank_if-utf8 false = IsUtf8-nil

pub chars-blank_if : (b : Bool) (text : List ℕ) → chars (blank_if b ++ text) ≡ blank_if b ++ chars text
chars-blank_if true text = chars-append (0x20 ∷ []) text blank_utf8 ∙ ap (λ l. l ++ chars text) chars-blank
chars-blank_if false text = refl

pub spelled-utf8 : (ts : List (List ℕ)) → All IsUtf8 ts → IsUtf8 (spelled ts)
spelled-utf8 [] all = IsUtf8-nil
spelled-utf8 (t ∷ []) all = All-head IsUtf8 t [] all
spelled-utf8 (t ∷ u ∷ ts) all =
    IsUtf8-append t (blank_if (is_parted t u) ++ spelled (u ∷ ts)) (All-head IsUtf8 t (u ∷ ts) all)
    (IsUtf8-append (blank_if (is_parted t u)) (spelled (u ∷ ts)) (blank_if-utf8 (is_parted t u)) (spelled-utf8 (u ∷ ts) (All-tail IsUtf8 t (u ∷ ts) all)))

chars-spelled : (ts : List (List ℕ)) → All IsUtf8 ts → chars (spelled ts) ≡ joined (map chars ts)
chars-spelled [] all = chars-nil
chars-spelled (t ∷ []) all = refl
chars-spelled (t ∷ u ∷ ts) all =
    chars-append t (blank_if (is_parted t u) ++ spelled (u ∷ ts)) (All-head IsUtf8 t (u ∷ ts) all)
    ∙ ap (λ l. chars t ++ l) (chars-blank_if (is_parted t u) (spelled (u ∷ ts))
    ∙ ap (λ l. blank_if (is_parted t u) ++ l) (chars-spelled (u ∷ ts) (All-tail IsUtf8 t (u ∷ ts) all)))

-- ---- texts of tokens

Continues-each : (cs : List ℕ) → ((f r : List ℕ) → cs ≡ f ++ blank ∷ r → first_is_word r ≡ true) → Continues cs
Continues-each [] each = tt
Continues-each (c ∷ cs) each = (λ is. each [] cs (ap (λ x. x ∷ cs) is), Continues-each cs (λ f r e. each (c ∷ f) r (ap (λ l. c ∷ l) e)))

IsSequence-each : (cs : List ℕ) → (cs ≡ [] → ⊥) → ((r : List ℕ) → cs ≡ blank ∷ r → ⊥) → ((f r : List ℕ) → cs ≡ f ++ blank ∷ r → first_is_word r ≡ true) → IsSequence cs
IsSequence-each [] some first each = some refl
IsSequence-each (c ∷ cs) some first each = (
  ne_eqb c blank (λ is. first cs (ap (λ x. x ∷ cs) is)),
  (Continues-each (c ∷ cs) each).1,
)

scalars-following : (f r : List ℕ) → scalars (f ++ blank ∷ r) ≡ true → scalars r ≡ true
scalars-following [] r h = (and_parts (scalar blank) (scalars r) h).1
scalars-following (c ∷ f) r h = scalars-following f r (and_parts (scalar c) (scalars (f ++ blank ∷ r)) h).1

pub token_sequence : (text : List ℕ) → IsUtf8 text → IsTokenText text → IsSequence (chars text)
token_sequence text utf8 token = IsSequence-each (chars text) some first each
  where
    back : encodes (chars text) ≡ text
    back = encodes-chars text utf8

    some : chars text ≡ [] → ⊥
    some none = let e : length text ≡ 0 = ap length (sym back ∙ ap encodes none) in let more : 0 < length text =
        token.not_empty in absurd (omega (arith, e, more))

    cut : (f r : List ℕ) → chars text ≡ f ++ blank ∷ r → text ≡ encodes f ++ 0x20 ∷ encodes r
    cut f r e = sym back ∙ ap encodes e ∙ encodes-append f (blank ∷ r) ∙ ap (λ l. encodes f ++ (l ++ encodes r)) (encode_ascii blank (lit< tt))

    first : (r : List ℕ) → chars text ≡ blank ∷ r → ⊥
    first r e =
        let inside : ends_in_word [] ≡ true = (token.blanks [] (encodes r) (cut [] r e)).0 in
        true≢false (sym inside ∙ ap (λ cs. first_is_word (reverse cs)) chars-nil)

    each : (f r : List ℕ) → chars text ≡ f ++ blank ∷ r → first_is_word r ≡ true
    each f r e =
        let inside : begins_in_word (encodes r) ≡ true = (token.blanks (encodes f) (encodes r) (cut f r e)).1 in
        sym (ap first_is_word (chars-encodes r (scalars-following f r (ap scalars (sym e) ∙ scalars-chars text utf8)))) ∙ inside

sequences : (ts : List (List ℕ)) → All IsUtf8 ts → All IsTokenText ts → AreSequences (map chars ts)
sequences [] utf8 token = tt
sequences (t ∷ ts) utf8 token = (
  token_sequence t (All-head IsUtf8 t ts utf8) (All-head IsTokenText t ts token),
  sequences ts (All-tail IsUtf8 t ts utf8) (All-tail IsTokenText t ts token),
)

-- the canonical spelling of the texts of tokens spells the tokens
pub spelled_spells : (ts : List (List ℕ)) → (ts ≡ [] → ⊥) → All IsUtf8 ts → All IsTokenText ts → Spells (chars (spelled ts)) (map chars ts)
spelled_spells [] some utf8 token = absurd (some refl)
spelled_spells (t ∷ ts) some utf8 token =
    let all = sequences (t ∷ ts) utf8 token in
    subst (λ w. Spells w (map chars (t ∷ ts))) (sym (chars-spelled (t ∷ ts) utf8)) (joined_spells (chars t) (map chars ts) all.0 all.1)
