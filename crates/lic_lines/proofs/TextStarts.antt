-- The tokens of a text from its front on: a blank, a word that begins no sign, and such a mark by itself.
use Rattle.std.proofs.Common.{◌≡◌, ◌≢◌, ℕ, ◌-◌, ◌<◌, ◌≤◌, Bool, true, false, cond, List, [], ◌∷◌, ◌++◌, length, take, drop, map, get_or, refl, sym, ap, ap₂, ◌∙◌, arith}
use Rattle.std.specs.Prelude.{bytes_eq, codes, encode_utf8_all}
use Rattle.std.proofs.lemmas.Bool.{cond-false}
use Rattle.std.proofs.lemmas.List.{append-nil, length-take-le, get_or-take}
use Rattle.lic_kind.specs.Kinds.{kind_of, spell}
use Rattle.lic_kind.specs.declared.Kind.TheVariants as kind
use Rattle.lic_trim.specs.Texts.{groups}
use Rattle.lic_trim.specs.declared.source.SourceChar.{SourceChar}
use Rattle.lic_kind.specs.LineRules.{LineRules}
use Rattle.lic_lines.specs.Cells.{Mark, Word, cell_of}
use Rattle.lic_lines.specs.Streaks.{may_join, streaks_joined, without_separators, with_joined}
use Rattle.lic_lines.specs.TextStarts.{text_token}
use Rattle.lic_lines.specs.Tokens.{Token, both_words, blank_after, letters_of, is_text, single_signs, text_tokens_after, tokens_after, tokens_from}
use Rattle.lic_lines.proofs.KindSequences.{cell_of-Mark, words_sequence, marks_sequence, blank_front}
use Rattle.lic_lines.proofs.PlainSigns.{plain_first}
use Rattle.lic_lines.proofs.TokenLemmas.{word_is_token}

-- a character that is neither a mark nor of a word
pub front_blank : (rules : LineRules) (after_blank : Bool) (text : List SourceChar) (d : SourceChar) → 0 < length text
    → kind_of (get_or text 0 d).char ≢ kind.Word → kind_of (get_or text 0 d).char ≢ kind.Mark
    → text_tokens_after rules true (drop 1 text) ≡ text_tokens_after rules after_blank text
front_blank rules after_blank [] d some no_word no_mark = absurd (omega arith)
front_blank rules after_blank (s ∷ text) d some no_word no_mark = ap single_signs (blank_front rules after_blank s text no_word no_mark)

-- the sequence of word characters, where it is no sign and begins none
pub front_word : (rules : LineRules) (after_blank : Bool) (text : List SourceChar) (n : ℕ) (letters : List ℕ) (d : SourceChar) → 0 < n → n ≤ length text
    → ((i : ℕ) (d : SourceChar) → i < n → kind_of (get_or text i d).char ≡ kind.Word)
    → ((d : SourceChar) → n < length text → kind_of (get_or text n d).char ≢ kind.Word)
    → letters ≡ encode_utf8_all (letters_of (map Word (take n text)))
    → bytes_eq (codes "(") letters ≡ false → bytes_eq (encode_utf8_all (0xA9 ∷ [])) letters ≡ false
    → text_token after_blank n letters text d ∷ text_tokens_after rules false (drop n text) ≡ text_tokens_after rules after_blank text
front_word rules after_blank text n letters d some within words stop is no_parenthesis no_sign =
    let word = take n text in
    let long : length word ≡ n = length-take-le n text within in
    let first : get_or word 0 d ≡ get_or text 0 d = get_or-take n text 0 d some in
    let last : get_or word (length word - 1) d ≡ get_or text (n - 1) d = ap (λ m. get_or word (m - 1) d) long ∙ get_or-take n text (n - 1) d (omega arith) in
    let t = text_token after_blank n letters text d in
    let rest = tokens_after rules false (drop n text) in
    sym (plain_first t rest no_parenthesis
    (cond-false (is_text (encode_utf8_all (0xA9 ∷ [])) t) (record t { text = codes "copyright" }) t no_sign))
    ∙ ap single_signs
    (ap₂ (λ (a b : SourceChar). let u : Token = record { text = letters; start = a.start; end = b.end; after_blank = after_blank } in u ∷ rest) (sym first) (sym last)
    ∙ ap (λ l. l ++ rest) (word_is_token after_blank word d letters (omega arith) is)
    ∙ words_sequence rules after_blank text n within some words stop)

one_mark : (rules : LineRules) (s : SourceChar) → streaks_joined rules (Mark s ∷ []) ≡ Mark s ∷ []
one_mark rules s = at rules.separators
  where
    at : (b : Bool) → with_joined (cond b (without_separators (Mark s ∷ [])) (Mark s ∷ [])) ≡ Mark s ∷ []
    at true = refl
    at false = refl

-- a mark that is not joined to one after it, where it is no sign and begins none
pub front_mark : (rules : LineRules) (after_blank : Bool) (text : List SourceChar) (letters : List ℕ) (d : SourceChar) → 0 < length text
    → kind_of (get_or text 0 d).char ≡ kind.Mark
    → ((d : SourceChar) → 1 < length text → kind_of (get_or text 1 d).char ≡ kind.Mark → may_join (get_or text 0 d).char (get_or text 1 d).char ≡ false)
    → letters ≡ encode_utf8_all (spell (get_or text 0 d).char)
    → bytes_eq (codes "(") letters ≡ false → bytes_eq (encode_utf8_all (0xA9 ∷ [])) letters ≡ false
    → text_token after_blank 1 letters text d ∷ text_tokens_after rules false (drop 1 text) ≡ text_tokens_after rules after_blank text
front_mark rules after_blank [] letters d some mark alone is no_parenthesis no_sign = absurd (omega arith)
front_mark rules after_blank (s ∷ past) letters d some mark alone is no_parenthesis no_sign =
    let text = s ∷ past in
    let t = text_token after_blank 1 letters text d in
    let rest = tokens_after rules false past in
    let streaks : streaks_joined rules (map cell_of (s ∷ [])) ≡ Mark s ∷ [] = ap (λ c. streaks_joined rules (c ∷ [])) (cell_of-Mark s mark) ∙ one_mark rules s in
    let spelled : letters ≡ encode_utf8_all (letters_of (Mark s ∷ [])) = is ∙ ap encode_utf8_all (sym (append-nil (spell s.char))) in
    sym (plain_first t rest no_parenthesis
    (cond-false (is_text (encode_utf8_all (0xA9 ∷ [])) t) (record t { text = codes "copyright" }) t no_sign))
    ∙ ap single_signs
    (ap (λ l. let u : Token = record { text = l; start = s.start; end = s.end; after_blank = after_blank } in u ∷ rest) spelled
    ∙ sym (ap (λ l. tokens_from after_blank (groups both_words l) ++ tokens_after rules (blank_after after_blank (groups both_words l)) past) streaks)
    ∙ marks_sequence rules after_blank text 1
    (omega arith) (omega arith)
    (λ i e lt. let here : i ≡ 0 = omega arith in ap (λ k. kind_of (get_or text k e).char) here ∙ mark)
    alone)
