-- The texts of tokens.
use Rattle.std.proofs.Common.{◌≡◌, ℕ, zero, suc, ◌+◌, ◌-◌, ◌<◌, ◌==◌, Bool, true, false, not, List, [], ◌∷◌, ◌++◌, map, length, take, drop, get_or, ◌&&◌, refl, sym, ap, subst, ◌∙◌, arith, All, inl, inr, eqb-true, length-append, append-nil}
use Rattle.std.specs.Prelude.{Option, Some, None, codes, encode_utf8_all, nat_le, nat_lt, if◌then◌else◌}
use Rattle.std.specs.List.{flat_map, list_all}
use Rattle.std.specs.Char.{is_whitespace}
use Rattle.std.specs.Str.{NoCharPasses, NonePass}
use Rattle.std.proofs.Math.Seq.{drop-append_seam, get_or-append_seam, take-append_seam}
use Rattle.std.proofs.lemmas.Bool.{cases_Bool, cond-true, cond-false, and_parts, true≢false, false_from_ne_true}
use Rattle.std.proofs.lemmas.List.Elements.{All-nil, All-cons, All-drop, All-head, All-map, All-tail, All-take, All-weaker}
use Rattle.std.proofs.lemmas.List.{map-append}
use Rattle.std.proofs.lemmas.Str.{length-le-encodes, NoCharPasses-byte}
use Rattle.lic_kind.specs.Kinds.{kind_of, is_word_kind, is_mark_kind, spell}
use Rattle.lic_kind.specs.declared.Kind.{Kind}
use Rattle.lic_kind.specs.declared.Kind.TheVariants.{Blank as BlankKind, Dropped as DroppedKind, Mark as MarkKind, Word as WordKind}
use Rattle.lic_kind.proofs.KindLemmas.{is_word_kind-true, kind_of-white}
use Rattle.lic_kind.proofs.LetterLemmas.{spell-Mark, mark_letters, word_letters_are_not_white, word_has_letters}
use Rattle.lic_trim.specs.Texts.{groups}
use Rattle.lic_trim.specs.Sources.{chars_of, without_dropped, lines_of}
use Rattle.lic_trim.specs.declared.source.SourceChar.{SourceChar}
use Rattle.lic_lines.specs.declared.cell.Cell.{Cell}
use Rattle.lic_lines.specs.declared.cell.Cell.TheVariants.{Blank, Mark, Word}
use Rattle.lic_trim.specs.declared.line_part.LinePart.{LinePart}
use Rattle.lic_kind.specs.LineRules.{LineRules}
use Rattle.lic_trim.specs.Lines.{whole_line, cut_of}
use Rattle.lic_lines.specs.Cells.{blank_for, cell_of, cells_of, line_cells}
use Rattle.lic_lines.specs.Streaks.{same_mark, same_family, without_separator, without_separators, joined, streaks_joined}
use Rattle.lic_lines.specs.Tokens.{Token, both_words, letters_of, tokens_from, first_tokens, is_text, is_sign_in_parentheses, sign_from, as_sign, single_signs, text_tokens_after}
use Rattle.lic_phrases.specs.Rewriting.{Phrase, both_signs, sign_of_sequence, sign_sequences, begins_authority, https_as_http, begin_with_texts, longer, longest_phrase, count_after, first_as, phrases_after, phrases_joined, spanned, rewritten, SpannedText}
use Rattle.lic_phrases.specs.Settling.{Kept, Settles, left_of}
use Rattle.lic_phrases.specs.TokenTexts.{IsTokenText, HaveTokenTexts}
use Rattle.lic_tokens.specs.Tokens.{TokenValue, reported, AreTokenTexts, HaveTexts}
use Rattle.lic_rewriting.proofs.GroupLemmas.{parts_of_groups}
use Rattle.lic_tokens.proofs.SpellingPlaces.{texts_of-reported}

-- ---- texts without a blank

abbrev is_space : ℕ → Bool
is_space c = c == 0x20

no_blank_at : (text front rest : List ℕ) → list_all (λ b. not (is_space b)) text ≡ true → text ≡ front ++ 0x20 ∷ rest → ⊥
no_blank_at text front rest none parts = at front (ap (list_all (λ b. not (is_space b))) (sym parts) ∙ none)
  where
    at : (front : List ℕ) → list_all (λ b. not (is_space b)) (front ++ 0x20 ∷ rest) ≡ true → ⊥
    at [] h = true≢false (sym h)
    at (c ∷ front) h = at front (and_parts _ _ h).1

plain_text : (text : List ℕ) → 0 < length text → list_all (λ b. not (is_space b)) text ≡ true → IsTokenText text
plain_text text some none = record { not_empty = some; blanks = λ front rest parts. absurd (no_blank_at text front rest none parts) }

pub copyright_text : IsTokenText (codes "copyright")
copyright_text = plain_text (codes "copyright") (omega arith) refl

http_text : IsTokenText (codes "http")
http_text = plain_text (codes "http") (omega arith) refl

letters_text : (letters : List ℕ) → 0 < length letters → NonePass is_space letters → IsTokenText (encode_utf8_all letters)
letters_text letters some none =
    let text = encode_utf8_all letters in
    let no_char : NoCharPasses is_space text = (letters, refl, none) in
    record {
      not_empty = omega (arith, length-le-encodes letters);
      blanks = λ front rest parts.
          let at : get_or text (length front) 0 ≡ 0x20 = ap (λ l. get_or l (length front) 0) parts ∙ get_or-append_seam front 0x20 rest 0 in
          let inside : length front < length text = omega (arith, ap length parts, length-append front (0x20 ∷ rest)) in
          absurd (true≢false (ap is_space (sym at) ∙ NoCharPasses-byte is_space text (length front) no_char inside (omega arith)));
    }

-- ---- cells

-- a mark is of kind Mark, and a word character of kind Word
abbrev pub KindsFit : List Cell → Type 0
KindsFit [] = Unit {0}
KindsFit (Blank ∷ cells) = KindsFit cells
KindsFit (Mark s ∷ cells) = (kind_of s.char ≡ MarkKind) × KindsFit cells
KindsFit (Word s ∷ cells) = (kind_of s.char ≡ WordKind) × KindsFit cells

pub fit-append : (xs ys : List Cell) → KindsFit xs → KindsFit ys → KindsFit (xs ++ ys)
fit-append [] ys h g = g
fit-append (Blank ∷ xs) ys h g = fit-append xs ys h g
fit-append (Mark s ∷ xs) ys h g = (h.0, fit-append xs ys h.1 g)
fit-append (Word s ∷ xs) ys h g = (h.0, fit-append xs ys h.1 g)

fit-split : (xs ys : List Cell) → KindsFit (xs ++ ys) → KindsFit xs × KindsFit ys
fit-split [] ys h = (tt, h)
fit-split (Blank ∷ xs) ys h = fit-split xs ys h
fit-split (Mark s ∷ xs) ys h = let rest = fit-split xs ys h.1 in ((h.0, rest.0), rest.1)
fit-split (Word s ∷ xs) ys h = let rest = fit-split xs ys h.1 in ((h.0, rest.0), rest.1)

is_mark_kind-true : (kind : Kind) → is_mark_kind kind ≡ true → kind ≡ MarkKind
is_mark_kind-true MarkKind h = refl
is_mark_kind-true WordKind h = absurd (true≢false (sym h))
is_mark_kind-true BlankKind h = absurd (true≢false (sym h))
is_mark_kind-true DroppedKind h = absurd (true≢false (sym h))

fit-cells : (text : List SourceChar) → KindsFit (map cell_of text)
fit-cells [] = tt
fit-cells (s ∷ text) =
    let rest = fit-cells text in
    let P : Cell → Type 0 = λ cell. KindsFit (cell ∷ map cell_of text) in
    let kind = kind_of s.char in
    let other = if is_mark_kind kind then Mark s else Blank in
    elim (cases_Bool (is_word_kind kind)) [
      | inl word ↦ subst P (sym (cond-true (is_word_kind kind) (Word s) other word)) (is_word_kind-true kind word, rest)
      | inr no_word ↦
          subst P (sym (cond-false (is_word_kind kind) (Word s) other no_word))
          (elim (cases_Bool (is_mark_kind kind)) [
            | inl mark ↦ subst P (sym (cond-true (is_mark_kind kind) (Mark s) Blank mark)) (is_mark_kind-true kind mark, rest)
            | inr no_mark ↦ subst P (sym (cond-false (is_mark_kind kind) (Mark s) Blank no_mark)) rest
          ])
    ]

fit-blank : (n : ℕ) → KindsFit (blank_for n)
fit-blank zero = tt
fit-blank (suc n) = tt

pub fit-line : (rules : LineRules) (part : LinePart) (line : List SourceChar) → KindsFit (line_cells rules part line)
fit-line rules part line =
    let cut = cut_of rules part (chars_of line) in
    let rest = drop (cut.lead + cut.item) line in
    let kept = map cell_of (take (length rest - cut.tail) rest) in
    fit-append (blank_for cut.lead ++ blank_for cut.item ++ kept) (blank_for cut.tail)
    (fit-append (blank_for cut.lead ++ blank_for cut.item) kept
    (fit-append (blank_for cut.lead) (blank_for cut.item) (fit-blank cut.lead) (fit-blank cut.item))
    (fit-cells (take (length rest - cut.tail) rest)))
    (fit-blank cut.tail)

pub fit-lines : (rules : LineRules) (lines : List (List SourceChar)) → KindsFit (flat_map (line_cells rules whole_line) lines)
fit-lines rules [] = tt
fit-lines rules (line ∷ lines) =
    fit-append (line_cells rules whole_line line) (flat_map (line_cells rules whole_line) lines)
    (fit-line rules whole_line line) (fit-lines rules lines)

fit-streaks : (f : List Cell → List Cell) → ((streak : List Cell) → KindsFit streak → KindsFit (f streak))
    → (streaks : List (List Cell)) → KindsFit (flat_map (λ streak. streak) streaks) → KindsFit (flat_map f streaks)
fit-streaks f each [] h = tt
fit-streaks f each (streak ∷ streaks) h =
    let two = fit-split streak (flat_map (λ streak. streak) streaks) h in
    fit-append (f streak) (flat_map f streaks) (each streak two.0) (fit-streaks f each streaks two.1)

fit-separator : (streak : List Cell) → KindsFit streak → KindsFit (without_separator streak)
fit-separator [] h = h
fit-separator (Blank ∷ streak) h = h
fit-separator (Word s ∷ streak) h = h
fit-separator (Mark s ∷ streak) h =
    elim (cases_Bool (nat_le 2 (length streak))) [
      | inl many ↦ subst KindsFit (sym (cond-true (nat_le 2 (length streak)) (Blank ∷ []) (Mark s ∷ streak) many)) tt
      | inr few ↦ subst KindsFit (sym (cond-false (nat_le 2 (length streak)) (Blank ∷ []) (Mark s ∷ streak) few)) h
    ]

fit-joined : (streak : List Cell) → KindsFit streak → KindsFit (joined streak)
fit-joined [] h = h
fit-joined (Blank ∷ streak) h = h
fit-joined (Word s ∷ streak) h = h
fit-joined (Mark s ∷ streak) h = (h.0, tt)

fit-streaks_joined : (rules : LineRules) (cells : List Cell) → KindsFit cells → KindsFit (streaks_joined rules cells)
fit-streaks_joined rules cells h =
    let parted : KindsFit (without_separators cells) =
    fit-streaks without_separator fit-separator (groups same_mark cells)
    (subst KindsFit (sym (parts_of_groups same_mark cells)) h) in
    let first : KindsFit (if rules.separators then without_separators cells else cells) =
    elim (cases_Bool rules.separators) [
      | inl on ↦ subst KindsFit (sym (cond-true rules.separators (without_separators cells) cells on)) parted
      | inr off ↦ subst KindsFit (sym (cond-false rules.separators (without_separators cells) cells off)) h
    ] in
    fit-streaks joined fit-joined (groups same_family (if rules.separators then without_separators cells else cells))
    (subst KindsFit (sym (parts_of_groups same_family
    (if rules.separators then without_separators cells else cells))) first)

-- ---- letters

NonePass-append : (p : ℕ → Bool) (xs ys : List ℕ) → NonePass p xs → NonePass p ys → NonePass p (xs ++ ys)
NonePass-append p [] ys h g = g
NonePass-append p (x ∷ xs) ys h g = (h.0, NonePass-append p xs ys h.1 g)

not_space : (c : ℕ) → is_whitespace c ≡ false → is_space c ≡ false
not_space c dark = false_from_ne_true (is_space c) (λ is. true≢false (ap is_whitespace (sym (eqb-true c 0x20 is)) ∙ dark))

mark_is_dark : (c : ℕ) → kind_of c ≡ MarkKind → is_whitespace c ≡ false
mark_is_dark c mark = false_from_ne_true (is_whitespace c) (λ white. true≢false (sym (ap is_mark_kind mark) ∙ ap is_mark_kind (kind_of-white c white)))

dark_letters : (cs : List ℕ) → All (λ c. is_whitespace c ≡ false) cs → NonePass is_space cs
dark_letters [] h = tt
dark_letters (c ∷ cs) h = (not_space c (All-head (λ c. is_whitespace c ≡ false) c cs h), dark_letters cs (All-tail (λ c. is_whitespace c ≡ false) c cs h))

mark_spelled : (c : ℕ) → kind_of c ≡ MarkKind → NonePass is_space (spell c)
mark_spelled c mark = dark_letters (spell c)
    (All-weaker (λ d. kind_of d ≡ MarkKind) (λ d. is_whitespace d ≡ false) mark_is_dark (spell c) (mark_letters c mark))

no_space_letters : (cells : List Cell) → KindsFit cells → NonePass is_space (letters_of cells)
no_space_letters [] h = tt
no_space_letters (Blank ∷ cells) h = no_space_letters cells h
no_space_letters (Mark s ∷ cells) h = NonePass-append is_space (spell s.char) (letters_of cells) (mark_spelled s.char h.0) (no_space_letters cells h.1)
no_space_letters (Word s ∷ cells) h =
    NonePass-append is_space (spell s.char) (letters_of cells)
    (dark_letters (spell s.char) (word_letters_are_not_white s.char h.0)) (no_space_letters cells h.1)

-- ---- first tokens

none_have : HaveTexts []
none_have = All-nil (λ t. IsTokenText t.text)

more_have : (t : Token) (ts : List Token) → IsTokenText t.text → HaveTexts ts → HaveTexts (t ∷ ts)
more_have t ts text texts = All-cons (λ u. IsTokenText u.text) t ts text texts

first_has : (t : Token) (ts : List Token) → HaveTexts (t ∷ ts) → IsTokenText t.text
first_has t ts h = All-head (λ u. IsTokenText u.text) t ts h

rest_have : (t : Token) (ts : List Token) → HaveTexts (t ∷ ts) → HaveTexts ts
rest_have t ts h = All-tail (λ u. IsTokenText u.text) t ts h

tokens_from-texts : (after_blank : Bool) (streaks : List (List Cell)) → KindsFit (flat_map (λ streak. streak) streaks) → HaveTexts (tokens_from after_blank streaks)
tokens_from-texts after_blank [] h = none_have
tokens_from-texts after_blank ([] ∷ streaks) h = tokens_from-texts after_blank streaks h
tokens_from-texts after_blank ((Blank ∷ cells) ∷ streaks) h = tokens_from-texts true streaks (fit-split cells (flat_map (λ streak. streak) streaks) h).1
tokens_from-texts after_blank ((Mark s ∷ cells) ∷ streaks) h =
    let two = fit-split (Mark s ∷ cells) (flat_map (λ streak. streak) streaks) h in
    more_have _ _
    (letters_text (letters_of (Mark s ∷ cells))
    (omega (arith, length-append (spell s.char) (letters_of cells), ap length (spell-Mark s.char h.0)))
    (no_space_letters (Mark s ∷ cells) two.0))
    (tokens_from-texts false streaks two.1)
tokens_from-texts after_blank ((Word s ∷ cells) ∷ streaks) h =
    let two = fit-split (Word s ∷ cells) (flat_map (λ streak. streak) streaks) h in
    more_have _ _
    (letters_text (letters_of (Word s ∷ cells))
    (omega (arith, length-append (spell s.char) (letters_of cells), word_has_letters s.char h.0))
    (no_space_letters (Word s ∷ cells) two.0))
    (tokens_from-texts false streaks two.1)

-- ---- the rewriting

as_sign-text : (t : Token) → IsTokenText t.text → IsTokenText (as_sign t).text
as_sign-text t text =
    let test = is_text (encode_utf8_all (0xA9 ∷ [])) t in
    let P : Token → Type 0 = λ u. IsTokenText u.text in
    elim (cases_Bool test) [
      | inl is ↦ subst P (sym (cond-true test (record t { text = codes "copyright" }) t is)) copyright_text
      | inr other ↦ subst P (sym (cond-false test (record t { text = codes "copyright" }) t other)) text
    ]

single_signs-texts : (ts : List Token) → HaveTexts ts → HaveTexts (single_signs ts)
single_signs-texts [] h = h
single_signs-texts (a ∷ []) h = more_have (as_sign a) [] (as_sign-text a (first_has a [] h)) none_have
single_signs-texts (a ∷ b ∷ []) h =
    let more = rest_have a (b ∷ []) h in
    more_have (as_sign a) (as_sign b ∷ []) (as_sign-text a (first_has a (b ∷ []) h)) (more_have (as_sign b) [] (as_sign-text b (first_has b [] more)) none_have)
single_signs-texts (a ∷ b ∷ c ∷ ts) h =
    let test = is_sign_in_parentheses a b c in
    let more = rest_have a (b ∷ c ∷ ts) h in
    elim (cases_Bool test) [
      | inl is ↦
          subst HaveTexts (sym (cond-true test (sign_from a c ∷ single_signs ts) (as_sign a ∷ single_signs (b ∷ c ∷ ts)) is))
          (more_have (sign_from a c) (single_signs ts) copyright_text (single_signs-texts ts (rest_have c ts (rest_have b (c ∷ ts) more))))
      | inr other ↦
          subst HaveTexts (sym (cond-false test (sign_from a c ∷ single_signs ts) (as_sign a ∷ single_signs (b ∷ c ∷ ts)) other))
          (more_have (as_sign a) (single_signs (b ∷ c ∷ ts)) (as_sign-text a (first_has a (b ∷ c ∷ ts) h)) (single_signs-texts (b ∷ c ∷ ts) more))
    ]

sequences-texts : (sequences : List (List Token)) → HaveTexts (flat_map (λ sequence. sequence) sequences) → HaveTexts (flat_map sign_of_sequence sequences)
sequences-texts [] h = h
sequences-texts ([] ∷ sequences) h = sequences-texts sequences h
sequences-texts ((t ∷ ts) ∷ sequences) h =
    let rest = flat_map (λ (sequence : List Token). sequence) sequences in
    more_have _ (flat_map sign_of_sequence sequences) (first_has t (ts ++ rest) h) (sequences-texts sequences (past ts rest (rest_have t (ts ++ rest) h)))
  where
    past : (xs ys : List Token) → HaveTexts (xs ++ ys) → HaveTexts ys
    past [] ys g = g
    past (x ∷ xs) ys g = past xs ys (rest_have x (xs ++ ys) g)

https-texts : (ts : List Token) → HaveTexts ts → HaveTexts (https_as_http ts)
https-texts [] h = h
https-texts (t ∷ ts) h =
    let test = is_text (codes "https") t && begins_authority ts in
    let rest = https-texts ts (rest_have t ts h) in
    let P : Token → Type 0 = λ u. HaveTexts (u ∷ https_as_http ts) in
    elim (cases_Bool test) [
      | inl is ↦ subst P (sym (cond-true test (record t { text = codes "http" }) t is)) (more_have (record t { text = codes "http" }) (https_as_http ts) http_text rest)
      | inr other ↦ subst P (sym (cond-false test (record t { text = codes "http" }) t other)) (more_have t (https_as_http ts) (first_has t ts h) rest)
    ]

-- the spelling of a phrase that was found
abbrev HasSpelling : Option Phrase → Type 0
HasSpelling None = Unit {0}
HasSpelling (Some p) = IsTokenText p.spelling

longer-has : (p : Phrase) (other : Option Phrase) → IsTokenText p.spelling → HasSpelling other → IsTokenText (longer p other).spelling
longer-has p None h g = h
longer-has p (Some q) h g =
    let P : Phrase → Type 0 = λ r. IsTokenText r.spelling in
    elim (cases_Bool (nat_lt (length p.texts) (length q.texts))) [
      | inl less ↦ subst P (sym (cond-true (nat_lt (length p.texts) (length q.texts)) q p less)) g
      | inr more ↦ subst P (sym (cond-false (nat_lt (length p.texts) (length q.texts)) q p more)) h
    ]

longest-has : (words : List Phrase) (ts : List Token) → HaveTokenTexts words → HasSpelling (longest_phrase words ts)
longest-has [] ts h = tt
longest-has (p ∷ words) ts h =
    let rest = longest-has words ts (All-tail (λ q. IsTokenText q.spelling) p words h) in
    elim (cases_Bool (begin_with_texts p.texts ts)) [
      | inl here ↦ subst HasSpelling
          (sym (cond-true (begin_with_texts p.texts ts) (Some (longer p (longest_phrase words ts)))
          (longest_phrase words ts) here))
          (longer-has p (longest_phrase words ts) (All-head (λ q. IsTokenText q.spelling) p words h) rest)
      | inr no_such ↦ subst HasSpelling
          (sym (cond-false (begin_with_texts p.texts ts) (Some (longer p (longest_phrase words ts)))
          (longest_phrase words ts) no_such)) rest
    ]

phrases-texts : (words : List Phrase) (n : ℕ) (ts : List Token) → HaveTokenTexts words → HaveTexts ts → HaveTexts (phrases_after words n ts)
phrases-texts words n [] known h = none_have
phrases-texts words (suc n) (t ∷ ts) known h = phrases-texts words n ts known (rest_have t ts h)
phrases-texts words zero (t ∷ ts) known h =
    at (longest_phrase words (t ∷ ts))
    (longest-has words (t ∷ ts) known) (λ n. phrases-texts words n ts known (rest_have t ts h))
  where
    at : (phrase : Option Phrase) → HasSpelling phrase → ((n : ℕ) → HaveTexts (phrases_after words n ts))
        → HaveTexts (first_as phrase t ts ∷ phrases_after words (count_after phrase) ts)
    at None g more = more_have t (phrases_after words 0 ts) (first_has t ts h) (more 0)
    at (Some p) g more = more_have (first_as (Some p) t ts) (phrases_after words (length p.texts - 1) ts) g (more (length p.texts - 1))

reported-texts : (ts : List Token) → HaveTexts ts → AreTokenTexts (map reported (map spanned ts))
reported-texts [] h = All-nil (λ t. IsTokenText t.text)
reported-texts (t ∷ ts) h = All-cons (λ u. IsTokenText u.text) (reported (spanned t)) (map reported (map spanned ts))
    (first_has t ts h) (reported-texts ts (rest_have t ts h))

-- ---- of a text

-- the texts of the tokens that cells give, where a blank comes before them or does not
joined-texts : (rules : LineRules) (after_blank : Bool) (cells : List Cell) → KindsFit cells
    → HaveTexts (tokens_from after_blank (groups both_words (streaks_joined rules cells)))
joined-texts rules after_blank cells fit =
    let joined = streaks_joined rules cells in
    tokens_from-texts after_blank (groups both_words joined)
    (subst KindsFit (sym (parts_of_groups both_words joined)) (fit-streaks_joined rules cells fit))

-- and with each copyright sign as one
pub cells-texts : (rules : LineRules) (after_blank : Bool) (cells : List Cell) → KindsFit cells
    → HaveTexts (single_signs (tokens_from after_blank (groups both_words (streaks_joined rules cells))))
cells-texts rules after_blank cells fit =
    single_signs-texts (tokens_from after_blank (groups both_words (streaks_joined rules cells))) (joined-texts rules after_blank cells fit)

-- of lines
pub lines-texts : (rules : LineRules) (text : List SourceChar) → HaveTexts (first_tokens (streaks_joined rules (cells_of rules text)))
lines-texts rules text = joined-texts rules true (cells_of rules text) (fit-lines rules (lines_of (without_dropped text)))

-- of characters of which nothing is taken
pub after-texts : (rules : LineRules) (after_blank : Bool) (text : List SourceChar) → HaveTexts (text_tokens_after rules after_blank text)
after-texts rules after_blank text = cells-texts rules after_blank (map cell_of text) (fit-cells text)

-- after the rewriting
pub rewritten-texts : (words : List Phrase) (ts : List Token) → HaveTokenTexts words → HaveTexts ts → AreTokenTexts (map reported (rewritten words ts))
rewritten-texts words ts known texts =
    let sequences : HaveTexts (sign_sequences ts) =
    sequences-texts (groups both_signs ts) (subst HaveTexts (sym (parts_of_groups both_signs ts)) texts) in
    let joined = https_as_http (sign_sequences ts) in
    reported-texts (phrases_joined words joined) (phrases-texts words 0 joined known (https-texts (sign_sequences ts) sequences))

-- the texts alone
pub rewritten-all : (words : List Phrase) (ts : List Token) → HaveTokenTexts words → HaveTexts ts
    → All IsTokenText (map (λ t. t.text) (rewritten words ts))
rewritten-all words ts known texts =
    subst (λ (texts : List (List ℕ)). All IsTokenText texts) (texts_of-reported (rewritten words ts))
    (All-map IsTokenText (λ t. t.text) (map reported (rewritten words ts)) (rewritten-texts words ts known texts))

-- ---- of tokens that are settled

All-front : (xs ys : List TokenValue) → AreTokenTexts (xs ++ ys) → AreTokenTexts xs
All-front xs ys texts = subst AreTokenTexts (take-append_seam xs ys) (All-take (λ t. IsTokenText t.text) (length xs) (xs ++ ys) texts)

All-back : (xs ys : List TokenValue) → AreTokenTexts (xs ++ ys) → AreTokenTexts ys
All-back xs ys texts = subst AreTokenTexts (drop-append_seam xs ys) (All-drop (λ t. IsTokenText t.text) (length xs) (xs ++ ys) texts)

-- the texts of some more tokens of the rewriting
pub given-texts : (words : List Phrase) (taken : List Token) (before given more : List SpannedText) → HaveTokenTexts words → HaveTexts taken
    → rewritten words taken ≡ (before ++ given) ++ more → AreTokenTexts (map reported given)
given-texts words taken before given more known texts are =
    let all : AreTokenTexts ((map reported before ++ map reported given) ++ map reported more) =
    subst AreTokenTexts
    (ap (map reported) are ∙ map-append reported (before ++ given) more ∙ ap (λ l. l ++ map reported more) (map-append reported before given))
    (rewritten-texts words taken known texts) in
    All-back (map reported before) (map reported given) (All-front (map reported before ++ map reported given) (map reported more) all)

-- those that were settled together
pub settled-texts : (words : List Phrase) (taken : List Token) (before given : List SpannedText) (kept : Kept) → HaveTokenTexts words → HaveTexts taken
    → Settles words taken (before ++ given) kept → AreTokenTexts (map reported given)
settled-texts words taken before given kept known texts settles =
    given-texts words taken before given (left_of words kept []) known texts
    (ap (rewritten words) (sym (append-nil taken)) ∙ settles.continues [])

-- the front of some tokens
pub front-texts : (ts us : List Token) → HaveTexts (ts ++ us) → HaveTexts ts
front-texts ts us texts = subst HaveTexts (take-append_seam ts us) (All-take (λ t. IsTokenText t.text) (length ts) (ts ++ us) texts)
