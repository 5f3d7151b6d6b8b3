-- The structure of a canonical spelling: texts one after another, with a blank between two of them or none.
use Rattle.std.proofs.Common.{◌≡◌, ℕ, zero, suc, ◌<◌, Bool, true, false, List, [], ◌∷◌, ◌++◌, length, get_or, take, drop, refl, sym, ap, ◌∙◌, subst, arith, append_assoc, append-nil, reverse, lit<, All}
use Rattle.std.specs.Str.{chars, IsUtf8}
use Rattle.std.proofs.lemmas.Bool.{true≢false}
use Rattle.std.proofs.lemmas.List.Elements.{All-head, All-tail}
use Rattle.std.proofs.lemmas.Str.{IsUtf8-append, IsUtf8-encode, IsUtf8-nil, chars-append, chars-nil, chars-encodes, encode_ascii}
use Rattle.lic_kind.specs.Kinds.{kind_of, is_word_kind}
use Rattle.lic_phrases.specs.Spelling.{first_is_word, begins_in_word, is_parted, is_parted_at, blank_if, spelled}
use Rattle.lic_phrases.specs.TokenTexts.{IsTokenText}
use Rattle.lic_phrases.proofs.SpellingLemmas.{spelled-more}

-- ---- cutting

-- all texts, cut after the one at `k`
pub spelled-cut : (texts : List (List ℕ)) (k : ℕ) → suc k < length texts
    → spelled texts
    ≡ spelled (take (suc k) texts) ++ (blank_if (is_parted_at texts (suc k)) ++ spelled (drop (suc k) texts))
spelled-cut [] k h = absurd (omega arith)
spelled-cut (t ∷ []) k h = absurd (omega arith)
spelled-cut (t ∷ u ∷ texts) zero h = refl
spelled-cut (t ∷ u ∷ texts) (suc k) h =
    let blank = blank_if (is_parted t u) in
    let front = spelled (u ∷ take k texts) in
    let last = blank_if (is_parted_at (u ∷ texts) (suc k)) ++ spelled (drop (suc k) (u ∷ texts)) in
    ap (λ l. t ++ (blank ++ l)) (spelled-cut (u ∷ texts) k (omega arith))
    ∙ ap (λ l. t ++ l) (sym (append_assoc blank front last))
    ∙ sym (append_assoc t (blank ++ front) last)

-- some bytes follow the first texts
pub spelled-front : (texts : List (List ℕ)) (k : ℕ) → k < length texts
    → (after : List ℕ) × (spelled texts ≡ spelled (take (suc k) texts) ++ after)
spelled-front [] k h = absurd (omega arith)
spelled-front (t ∷ []) zero h = ([], sym (append-nil t))
spelled-front (t ∷ []) (suc k) h = absurd (omega arith)
spelled-front (t ∷ u ∷ texts) zero h = (blank_if (is_parted t u) ++ spelled (u ∷ texts), refl)
spelled-front (t ∷ u ∷ texts) (suc k) h =
    let later = spelled-front (u ∷ texts) k (omega arith) in
    let blank = blank_if (is_parted t u) in (
      later.0,
      ap (λ l. t ++ (blank ++ l)) later.1
          ∙ ap (λ l. t ++ l) (sym (append_assoc blank (spelled (u ∷ take k texts)) later.0))
          ∙ sym (append_assoc t (blank ++ spelled (u ∷ take k texts)) later.0),
    )

-- from one text on, the spelling begins with it
pub spelled-from : (texts : List (List ℕ)) (k : ℕ) → k < length texts
    → (after : List ℕ) × (spelled (drop k texts) ≡ get_or texts k [] ++ after)
spelled-from [] k h = absurd (omega arith)
spelled-from (t ∷ []) zero h = ([], sym (append-nil t))
spelled-from (t ∷ u ∷ texts) zero h = (blank_if (is_parted t u) ++ spelled (u ∷ texts), refl)
spelled-from (t ∷ texts) (suc k) h = spelled-from texts k (omega arith)

-- ---- one text

-- the bytes before the text at `k`
abbrev pub before : List (List ℕ) → ℕ → List ℕ
before texts k = spelled (take k texts) ++ blank_if (is_parted_at texts k)

-- the first texts end with the last of them
pub spelled-before : (texts : List (List ℕ)) (k : ℕ) → k < length texts
    → spelled (take (suc k) texts) ≡ before texts k ++ get_or texts k []
spelled-before texts k h =
    spelled-more texts k h
    ∙ sym (append_assoc (spelled (take k texts)) (blank_if (is_parted_at texts k)) (get_or texts k []))

-- the text among all
pub spelled-around : (texts : List (List ℕ)) (k : ℕ) → k < length texts
    → (after : List ℕ) × (spelled texts ≡ before texts k ++ (get_or texts k [] ++ after))
spelled-around texts k h =
    let cut = spelled-front texts k h in (
      cut.0,
      cut.1 ∙ ap (λ l. l ++ cut.0) (spelled-before texts k h) ∙ append_assoc (before texts k) (get_or texts k []) cut.0,
    )

-- ---- UTF-8

pub blank-utf8 : IsUtf8 (0x20 ∷ [])
blank-utf8 = subst IsUtf8 (encode_ascii 0x20 (lit< tt)) (IsUtf8-encode 0x20 refl)

pub chars-blank : chars (0x20 ∷ []) ≡ 0x20 ∷ []
chars-blank = sym (ap (λ l. chars (l ++ [])) (encode_ascii 0x20 (lit< tt))) ∙ chars-encodes (0x20 ∷ []) refl

pub blank_if-utf8 : (b : Bool) → IsUtf8 (blank_if b)
blank_if-utf8 true = blank-utf8
blank_if-utf8 false = IsUtf8-nil

pub spelled-utf8 : (texts : List (List ℕ)) → All IsUtf8 texts → IsUtf8 (spelled texts)
spelled-utf8 [] all = IsUtf8-nil
spelled-utf8 (t ∷ []) all = All-head IsUtf8 t [] all
spelled-utf8 (t ∷ u ∷ texts) all =
    IsUtf8-append t (blank_if (is_parted t u) ++ spelled (u ∷ texts)) (All-head IsUtf8 t (u ∷ texts) all)
    (IsUtf8-append (blank_if (is_parted t u)) (spelled (u ∷ texts)) (blank_if-utf8 (is_parted t u))
    (spelled-utf8 (u ∷ texts) (All-tail IsUtf8 t (u ∷ texts) all)))

-- ---- blanks of a token's text

blank_no_word : is_word_kind (kind_of 0x20) ≡ false
unfolding kind_of
blank_no_word = refl

-- what begins with a blank begins with no letter of kind Word
pub begins_no_word : (rest : List ℕ) → begins_in_word (0x20 ∷ rest) ≡ false
begins_no_word rest =
    ap first_is_word (chars-append (0x20 ∷ []) rest blank-utf8 ∙ ap (λ l. l ++ chars rest) chars-blank)
    ∙ blank_no_word

empty_no_word : begins_in_word [] ≡ false
empty_no_word = ap first_is_word chars-nil

-- a token's text does not begin with a blank
pub text_begins : (text rest : List ℕ) → IsTokenText text → text ≡ 0x20 ∷ rest → ⊥
text_begins text rest token is =
    true≢false (sym (token.blanks [] rest is).0 ∙ ap (λ l. first_is_word (reverse l)) chars-nil)

-- nor does it end with one
pub text_ends : (text front : List ℕ) → IsTokenText text → text ≡ front ++ (0x20 ∷ []) → ⊥
text_ends text front token is = true≢false (sym (token.blanks front [] is).1 ∙ empty_no_word)

-- and two blanks are not adjacent in it
pub text_apart : (text front rest : List ℕ) → IsTokenText text → text ≡ front ++ (0x20 ∷ 0x20 ∷ rest) → ⊥
text_apart text front rest token is =
    true≢false (sym (token.blanks front (0x20 ∷ rest) is).1 ∙ begins_no_word rest)

-- ---- no two blanks together

-- a list that does not begin with a blank
abbrev pub BeginsNoBlank : List ℕ → Type 0
BeginsNoBlank xs = (rest : List ℕ) → xs ≡ 0x20 ∷ rest → ⊥

-- no two blanks are adjacent
abbrev pub AreApart : List ℕ → Type 0
AreApart [] = Unit {0}
AreApart (c ∷ cs) = (c ≡ 0x20 → BeginsNoBlank cs) × AreApart cs

AreApart-each : (xs : List ℕ) → ((front rest : List ℕ) → xs ≡ front ++ (0x20 ∷ 0x20 ∷ rest) → ⊥) → AreApart xs
AreApart-each [] each = tt
AreApart-each (c ∷ cs) each = (
  λ is rest next. each [] rest (ap (λ x. x ∷ cs) is ∙ ap (λ l. 0x20 ∷ l) next),
  AreApart-each cs (λ front rest e. each (c ∷ front) rest (ap (λ l. c ∷ l) e)),
)

AreApart-append : (xs ys : List ℕ) → AreApart xs → AreApart ys
    → ((front : List ℕ) → xs ≡ front ++ (0x20 ∷ []) → ⊥) → AreApart (xs ++ ys)
AreApart-append [] ys first second ends = second
AreApart-append (c ∷ []) ys first second ends = (λ is. absurd (ends [] (ap (λ x. x ∷ []) is)), second)
AreApart-append (c ∷ d ∷ xs) ys first second ends = (
  λ is rest next. first.0 is xs (ap (λ x. x ∷ xs) (ap (λ l. get_or l 0 0) next)),
  AreApart-append (d ∷ xs) ys first.1 second (λ front e. ends (c ∷ front) (ap (λ l. c ∷ l) e)),
)

BeginsNoBlank-append : (text after : List ℕ) → IsTokenText text → BeginsNoBlank (text ++ after)
BeginsNoBlank-append [] after token rest is = absurd (omega (arith, token.not_empty))
BeginsNoBlank-append (c ∷ text) after token rest is =
    text_begins (c ∷ text) text token (ap (λ x. x ∷ text) (ap (λ l. get_or l 0 0) is))

-- a spelling of texts of tokens does not begin with a blank
pub spelled-begins : (text : List ℕ) (texts : List (List ℕ)) → IsTokenText text → BeginsNoBlank (spelled (text ∷ texts))
spelled-begins text [] token rest is = text_begins text rest token is
spelled-begins text (next ∷ texts) token rest is =
    BeginsNoBlank-append text (blank_if (is_parted text next) ++ spelled (next ∷ texts)) token rest is

blank_if-apart : (b : Bool) (xs : List ℕ) → BeginsNoBlank xs → AreApart xs → AreApart (blank_if b ++ xs)
blank_if-apart true xs begins apart = (λ is. begins, apart)
blank_if-apart false xs begins apart = apart

-- no two blanks are adjacent in it
pub spelled-apart : (texts : List (List ℕ)) → All IsTokenText texts → AreApart (spelled texts)
spelled-apart [] all = tt
spelled-apart (t ∷ []) all =
    let token = All-head IsTokenText t [] all in
    AreApart-each t (λ front rest e. text_apart t front rest token e)
spelled-apart (t ∷ u ∷ texts) all =
    let token = All-head IsTokenText t (u ∷ texts) all in
    let later = All-tail IsTokenText t (u ∷ texts) all in
    AreApart-append t (blank_if (is_parted t u) ++ spelled (u ∷ texts))
    (AreApart-each t (λ front rest e. text_apart t front rest token e))
    (blank_if-apart (is_parted t u) (spelled (u ∷ texts)) (spelled-begins u texts (All-head IsTokenText u texts later))
    (spelled-apart (u ∷ texts) later))
    (λ front e. text_ends t front token e)

-- by places
pub apart_at : (xs : List ℕ) (p : ℕ) → AreApart xs → get_or xs p 0 ≡ 0x20 → get_or xs (suc p) 0 ≡ 0x20 → ⊥
apart_at [] p apart here next = absurd (let e : 0 ≡ 0x20 = here in omega (arith, e))
apart_at (c ∷ []) zero apart here next = absurd (let e : 0 ≡ 0x20 = next in omega (arith, e))
apart_at (c ∷ d ∷ xs) zero apart here next = apart.0 here xs (ap (λ x. x ∷ xs) next)
apart_at (c ∷ xs) (suc p) apart here next = apart_at xs p apart.1 here next
