-- Tokens that are given by the offsets where they begin and end.
use Rattle.std.proofs.Common.{◌≡◌, ℕ, zero, suc, ◌+◌, ◌-◌, ◌<◌, ◌≤◌, ◌==◌, Bool, true, false, not, ◌&&◌, ◌||◌, List, [], ◌∷◌, length, take, drop, get_or, inl, inr, refl, sym, ap, ap₂, ◌∙◌, subst, arith, add-one, drop-cons, length-drop, true≢false, ◌≢◌}
use Rattle.std.specs.Char.{encode_utf8}
use Rattle.std.specs.List.{AllByRecursion}
use Rattle.std.specs.Str.{chars}
use Rattle.std.specs.Prelude.{bytes_eq, codes, if◌then◌else◌, nat_lt, slice_range}
use Rattle.std.proofs.lemmas.List.{get_or-drop}
use Rattle.std.proofs.lemmas.Bool.{cases_lt, cond-true, cond-false, ne_eqb}
use Rattle.lic_kind.specs.declared.Kind.TheVariants.{Mark, Word}
use Rattle.lic_kind.specs.Kinds.{kind_of}
use Rattle.lic_columns.specs.Marks.{is_joining}
use Rattle.lic_columns.specs.PlainLines.{HasWords, IsOfWord}
use Rattle.lic_columns.specs.SpanTokens.{span_tokens, spans_by, token_text}
use Rattle.lic_lines.specs.Tokens.{Token, is_text, is_sign_in_parentheses, sign_from, as_sign, single_signs}
use Rattle.lic_phrases.specs.FirstTexts.{IsPlain}
use Rattle.lic_trim.proofs.TextLemmas.{bytes_eq-other}
use Rattle.lic_rewriting.specs.Sections.{AreFrom, begins_sign, may_begin_sign}

-- ---- one of the tokens

pub length-span_tokens : (after_blank : Bool) (at before : ℕ) (letters starts ends : List ℕ) → length ends ≡ length starts
    → length (span_tokens after_blank at before letters (spans_by starts ends)) ≡ length starts
length-span_tokens after_blank at before letters [] ends same = refl
length-span_tokens after_blank at before letters (s ∷ starts) [] same = absurd (omega arith)
length-span_tokens after_blank at before letters (s ∷ starts) (e ∷ ends) same = ap suc (length-span_tokens false at e letters starts ends (omega arith))

-- whether a blank comes before the token with this number
abbrev pub blank_before : Bool → ℕ → List ℕ → List ℕ → ℕ → Bool
blank_before after_blank before starts ends zero = after_blank || nat_lt before (get_or starts 0 0)
blank_before after_blank before starts ends (suc i) = nat_lt (get_or ends i 0) (get_or starts (suc i) 0)

blank_before-next : (after_blank : Bool) (before s e : ℕ) (starts ends : List ℕ) (i : ℕ)
    → blank_before false e starts ends i ≡ blank_before after_blank before (s ∷ starts) (e ∷ ends) (suc i)
blank_before-next after_blank before s e starts ends zero = refl
blank_before-next after_blank before s e starts ends (suc i) = refl

-- the token from this offset to that
abbrev pub token_between : ℕ → List ℕ → ℕ → ℕ → Bool → Token
token_between at letters start end after_blank = record {
  text = token_text (slice_range letters (start - at) (end - at));
  start = start;
  end = end;
  after_blank = after_blank;
}

pub one_token : (after_blank : Bool) (at before : ℕ) (letters starts ends : List ℕ) (i : ℕ) (d : Token) → length ends ≡ length starts → i < length starts
    → get_or (span_tokens after_blank at before letters (spans_by starts ends)) i d
    ≡ token_between at letters (get_or starts i 0) (get_or ends i 0) (blank_before after_blank before starts ends i)
one_token after_blank at before letters [] ends i d same lt = absurd (omega arith)
one_token after_blank at before letters (s ∷ starts) [] i d same lt = absurd (omega arith)
one_token after_blank at before letters (s ∷ starts) (e ∷ ends) zero d same lt = refl
one_token after_blank at before letters (s ∷ starts) (e ∷ ends) (suc i) d same lt =
    one_token false at e letters starts ends i d (omega arith) (omega arith)
    ∙ ap (token_between at letters (get_or starts i 0) (get_or ends i 0)) (blank_before-next after_blank before s e starts ends i)

-- a token after the first has a blank before it where the one before it ends earlier
pub blank_later : (after_blank : Bool) (before : ℕ) (starts ends : List ℕ) (i : ℕ) → 0 < i
    → nat_lt (get_or ends (i - 1) 0) (get_or starts i 0) ≡ blank_before after_blank before starts ends i
blank_later after_blank before starts ends zero more = absurd (omega arith)
blank_later after_blank before starts ends (suc i) more =
    ap (λ k. nat_lt (get_or ends k 0) (get_or starts (suc i) 0)) (let same : suc i - 1 ≡ i = omega arith in same)

-- the tokens of a section, by the offsets where they begin and end
module _ (at : ℕ) (letters starts ends : List ℕ) (tokens : List Token) (paired : length ends ≡ length starts)
    (are : span_tokens true at at letters (spans_by starts ends) ≡ tokens) where
  pub count : length starts ≡ length tokens
  count = sym (length-span_tokens true at at letters starts ends paired) ∙ ap length are

  pub token_is : (i : ℕ) (d : Token) → i < length tokens
      → token_between at letters (get_or starts i 0) (get_or ends i 0) (blank_before true at starts ends i) ≡ get_or tokens i d
  token_is i d lt =
      sym (one_token true at at letters starts ends i d paired (omega (arith, count))) ∙ ap (λ l. get_or l i d) are

-- a range of letters, by where it begins and how long it is
pub range_is : (letters : List ℕ) (at s e start end : ℕ) → s ≡ start → e ≡ end → at ≤ start → start ≤ end
    → slice_range letters (s - at) (s - at + (e - s)) ≡ slice_range letters (start - at) (end - at)
range_is letters at s e start end is_s is_e from order =
    ap₂ (λ m n. slice_range letters m n) (ap (λ m. m - at) is_s)
    (let same : s - at + (e - s) ≡ end - at = omega (arith, is_s, is_e, from, order) in same)

-- the tokens of a section from a number on, by the offsets of these alone
module _ (at : ℕ) (letters starts ends starts' ends' : List ℕ) (tokens rest : List Token) (i : ℕ) (paired : length ends ≡ length starts)
    (inside : i ≤ length tokens) (are : span_tokens true at at letters (spans_by starts ends) ≡ tokens)
    (are_rest : span_tokens true at at letters (spans_by starts' ends') ≡ rest) (starts_are : starts' ≡ drop i starts) (ends_are : ends' ≡ drop i ends) where
  paired' : length ends' ≡ length starts'
  paired' = ap length ends_are ∙ length-drop i ends ∙ ap (λ n. n - i) paired ∙ sym (length-drop i starts) ∙ ap length (sym starts_are)

  counted : i + length rest ≡ length tokens
  counted =
      omega (
        arith,
        inside,
        count at letters starts ends tokens paired are,
        count at letters starts' ends' rest paired' are_rest,
        ap length starts_are,
        length-drop i starts,
      )

  start : (k : ℕ) → get_or starts' k 0 ≡ get_or starts (i + k) 0
  start k = ap (λ l. get_or l k 0) starts_are ∙ get_or-drop i starts k 0

  end : (k : ℕ) → get_or ends' k 0 ≡ get_or ends (i + k) 0
  end k = ap (λ l. get_or l k 0) ends_are ∙ get_or-drop i ends k 0

  here : (k : ℕ) (d : Token) → k < length rest
      → token_between at letters (get_or starts' k 0) (get_or ends' k 0) (blank_before true at starts' ends' k) ≡ get_or rest k d
  here k d lt = token_is at letters starts' ends' rest paired' are_rest k d lt

  there : (k : ℕ) (d : Token) → k < length rest
      → token_between at letters (get_or starts (i + k) 0) (get_or ends (i + k) 0) (blank_before true at starts ends (i + k)) ≡ get_or tokens (i + k) d
  there k d lt = token_is at letters starts ends tokens paired are (i + k) d (omega (arith, lt, counted))

  pub rest_are : AreFrom tokens i rest
  rest_are = record {
    count = counted;
    texts = λ k d lt.
        sym (ap (λ (t : Token). t.text) (here k d lt)) ∙ ap₂ (λ m n. token_text (slice_range letters (m - at) (n - at))) (start k) (end k)
        ∙ ap (λ (t : Token). t.text) (there k d lt);
    starts = λ k d lt. sym (ap (λ (t : Token). t.start) (here k d lt)) ∙ start k ∙ ap (λ (t : Token). t.start) (there k d lt);
    ends = λ k d lt. sym (ap (λ (t : Token). t.end) (here k d lt)) ∙ end k ∙ ap (λ (t : Token). t.end) (there k d lt);
  }

-- ---- letters

take_twice : (l : List ℕ) (n : ℕ) → take (length (take n l)) l ≡ take n l
take_twice [] zero = refl
take_twice [] (suc n) = refl
take_twice (x ∷ l) zero = refl
take_twice (x ∷ l) (suc n) = ap (λ r. x ∷ r) (take_twice l n)

-- the letters from a token's first on begin with its text
pub text_in_front : (l : List ℕ) (n : ℕ) → token_text (take n l) ≡ take (length (token_text (take n l))) l
text_in_front [] zero = refl
text_in_front [] (suc n) = refl
text_in_front (x ∷ l) zero = refl
text_in_front (x ∷ l) (suc n) = at (is_joining x)
  where
    at : (b : Bool) → (if b then x ∷ [] else x ∷ take n l) ≡ take (length (if b then x ∷ [] else x ∷ take n l)) (x ∷ l)
    at true = refl
    at false = ap (λ r. x ∷ r) (sym (take_twice l n))

-- a plain text is what its letters are
pub plain_letters : (letters : List ℕ) → IsPlain letters → token_text letters ≡ letters
plain_letters [] plain = refl
plain_letters (l ∷ []) plain = same (is_joining l)
  where
    same : (b : Bool) → (if b then l ∷ [] else l ∷ []) ≡ l ∷ []
    same true = refl
    same false = refl
plain_letters (l ∷ m ∷ letters) plain =
    cond-false (is_joining l) (l ∷ []) (l ∷ m ∷ letters)
    (or-false (l == 0x27) (l == 0x2D) (ne_eqb l 0x27 (plain.apostrophe (omega arith))) (ne_eqb l 0x2D (plain.hyphen (omega arith))))
  where
    or-false : (a b : Bool) → a ≡ false → b ≡ false → (a || b) ≡ false
    or-false true b is_a is_b = is_a
    or-false false b is_a is_b = is_b

-- ---- signs

sign_is_mark : kind_of 0xA9 ≡ Mark
unfolding kind_of
sign_is_mark = refl

sign_char : chars (0xC2 ∷ 0xA9 ∷ []) ≡ 0xA9 ∷ []
unfolding chars
sign_char = refl

-- U+00A9 is beyond ASCII and of no word
no_words : HasWords (0xC2 ∷ 0xA9 ∷ []) → ⊥
no_words words =
    let word : kind_of 0xA9 ≡ Word = (subst (AllByRecursion IsOfWord) sign_char words).0 (omega arith) in
    let same : Mark ≡ Word = sym sign_is_mark ∙ word in
    cc

-- a token of which what is beyond ASCII is of words is no sign by itself
pub words_no_sign : (t : Token) → HasWords t.text → as_sign t ≡ t
unfolding encode_utf8
words_no_sign t words =
    cond-false (is_text (0xC2 ∷ 0xA9 ∷ []) t) (record t { text = codes "copyright" }) t
    (sym (bytes_eq-other (0xC2 ∷ 0xA9 ∷ []) t.text (λ same. no_words (subst HasWords (sym same) words))))

-- tokens of which the first is no `(` begin no sign
pub no_parenthesis : (t : Token) (ts : List Token) → is_text (codes "(") t ≡ false → begins_sign (t ∷ ts) ≡ false
no_parenthesis t [] none = refl
no_parenthesis t (b ∷ []) none = refl
no_parenthesis t (b ∷ c ∷ ts) none = ap (λ v. v && is_text (codes "c") b && not b.after_blank && is_text (codes ")") c && not c.after_blank) none

-- the next token
pub next_token : (tokens : List Token) (i : ℕ) (d : Token) → i < length tokens → drop i tokens ≡ get_or tokens i d ∷ drop (i + 1) tokens
next_token tokens i d lt = rw (add-one, drop-cons tokens i d) refl

-- a token that begins no sign
pub token_alone : (t : Token) (ts : List Token) → begins_sign (t ∷ ts) ≡ false → as_sign t ≡ t → single_signs (t ∷ ts) ≡ t ∷ single_signs ts
token_alone t [] none same = ap (λ u. u ∷ []) same
token_alone t (b ∷ []) none same = ap (λ u. u ∷ as_sign b ∷ []) same
token_alone t (b ∷ c ∷ ts) none same =
    cond-false (is_sign_in_parentheses t b c) (sign_from t c ∷ single_signs ts) (as_sign t ∷ single_signs (b ∷ c ∷ ts)) none
    ∙ ap (λ u. u ∷ single_signs (b ∷ c ∷ ts)) same

-- a sign of three tokens
pub sign_of_three : (a b c : Token) (ts : List Token) → begins_sign (a ∷ b ∷ c ∷ ts) ≡ true
    → single_signs (a ∷ b ∷ c ∷ ts) ≡ record { text = codes "copyright"; start = a.start; end = c.end; after_blank = a.after_blank } ∷ single_signs ts
sign_of_three a b c ts sign = cond-true (is_sign_in_parentheses a b c) (sign_from a c ∷ single_signs ts) (as_sign a ∷ single_signs (b ∷ c ∷ ts)) sign

-- the next three tokens
pub next_three : (tokens : List Token) (i : ℕ) (d : Token) → i + 2 < length tokens
    → drop i tokens ≡ get_or tokens i d ∷ get_or tokens (i + 1) d ∷ get_or tokens (i + 2) d ∷ drop (i + 3) tokens
next_three tokens i d lt =
    next_token tokens i d (omega arith)
    ∙ ap (λ l. get_or tokens i d ∷ l) (next_token tokens (i + 1) d (omega arith)
    ∙ ap (λ n. get_or tokens (i + 1) d ∷ drop n tokens) (let e : i + 1 + 1 ≡ i + 2 = omega arith in e))
    ∙ ap (λ l. get_or tokens i d ∷ get_or tokens (i + 1) d ∷ l) (next_token tokens (i + 2) d (omega arith)
    ∙ ap (λ n. get_or tokens (i + 2) d ∷ drop n tokens) (let e : i + 2 + 1 ≡ i + 3 = omega arith in e))

-- a sign has three tokens
few_tokens : (ts : List Token) → length ts < 3 → begins_sign ts ≡ false
few_tokens [] few = refl
few_tokens (a ∷ []) few = refl
few_tokens (a ∷ b ∷ []) few = refl
few_tokens (a ∷ b ∷ c ∷ ts) few = absurd (omega arith)

pub no_sign : (tokens : List Token) (i : ℕ) → length (drop i tokens) < 3 → begins_sign (drop i tokens) ≡ false
no_sign tokens i few = few_tokens (drop i tokens) few

-- ---- whether a sign may begin

-- where the first is no `(`, it may not
no_parenthesis_first : (t : Token) (ts : List Token) → is_text (codes "(") t ≡ false → may_begin_sign (t ∷ ts) ≡ false
no_parenthesis_first t [] none = refl
no_parenthesis_first t (b ∷ ts) none = ap (λ v. v && is_text (codes "c") b) none

-- the next two tokens
next_two : (tokens : List Token) (i : ℕ) (d : Token) → i + 1 < length tokens
    → drop i tokens ≡ get_or tokens i d ∷ get_or tokens (i + 1) d ∷ drop (i + 2) tokens
next_two tokens i d lt =
    next_token tokens i d (omega arith)
    ∙ ap (λ l. get_or tokens i d ∷ l) (next_token tokens (i + 1) d (omega arith)
    ∙ ap (λ n. get_or tokens (i + 1) d ∷ drop n tokens) (let e : i + 1 + 1 ≡ i + 2 = omega arith in e))

-- one token alone begins none
pub none_after_last : (tokens : List Token) (i : ℕ) → length tokens ≤ i + 1 → may_begin_sign (drop i tokens) ≡ false
none_after_last tokens i last = at (drop i tokens) (omega (arith, length-drop i tokens))
  where
    at : (ts : List Token) → length ts ≤ 1 → may_begin_sign ts ≡ false
    at [] few = refl
    at (a ∷ []) few = refl
    at (a ∷ b ∷ ts) few = absurd (omega arith)

-- nor does a token before one that is no `c`
pub none_before : (tokens : List Token) (i : ℕ) (d : Token) → i + 1 < length tokens → is_text (codes "c") (get_or tokens (i + 1) d) ≡ false
    → may_begin_sign (drop i tokens) ≡ false
none_before tokens i d lt none =
    ap may_begin_sign (next_two tokens i d lt)
    ∙ ap (λ v. is_text (codes "(") (get_or tokens i d) && v) none
    ∙ and-false (is_text (codes "(") (get_or tokens i d))
  where
    and-false : (b : Bool) → (b && false) ≡ false
    and-false true = refl
    and-false false = refl

-- nor a token that is no `(`
pub none_but_parenthesis : (tokens : List Token) (i : ℕ) (d : Token) → i < length tokens → is_text (codes "(") (get_or tokens i d) ≡ false
    → may_begin_sign (drop i tokens) ≡ false
none_but_parenthesis tokens i d lt none =
    ap may_begin_sign (next_token tokens i d lt) ∙ no_parenthesis_first (get_or tokens i d) (drop (i + 1) tokens) none

-- where none may begin, none begins
none_begins : (a b : Token) (ts : List Token) → (is_text (codes "(") a && is_text (codes "c") b) ≡ false → begins_sign (a ∷ b ∷ ts) ≡ false
none_begins a b [] none = refl
none_begins a b (c ∷ ts) none = ap (λ v. v && not b.after_blank && is_text (codes ")") c && not c.after_blank) none

-- where none may begin among the tokens from a number on, none begins there
pub no_sign_there : (tokens rest : List Token) (i k : ℕ) (d : Token) → AreFrom tokens i rest → k < length rest → may_begin_sign (drop k rest) ≡ false
    → begins_sign (drop (i + k) tokens) ≡ false
no_sign_there tokens rest i k d from lt none = elim (cases_lt (i + k + 1) (length tokens)) [
  | inl two ↦
      let more : k + 1 < length rest = omega (arith, two, from.count) in
      let second : i + (k + 1) ≡ i + k + 1 = omega arith in
      ap begins_sign (next_two tokens (i + k) d two)
      ∙ none_begins (get_or tokens (i + k) d) (get_or tokens (i + k + 1) d) (drop (i + k + 2) tokens)
      (ap₂ (λ s t. bytes_eq (codes "(") s && bytes_eq (codes "c") t) (sym (from.texts k d lt))
      (sym (from.texts (k + 1) d more ∙ ap (λ n. (get_or tokens n d).text) second))
      ∙ sym (ap may_begin_sign (next_two rest k d more)) ∙ none)
  | inr one ↦ no_sign tokens (i + k) (omega (arith, one, length-drop (i + k) tokens))
]

pub no_sign_here : (tokens : List Token) (i : ℕ) (d : Token) → i < length tokens → may_begin_sign (drop i tokens) ≡ false
    → begins_sign (drop i tokens) ≡ false
no_sign_here tokens i d lt none =
    ap (λ n. begins_sign (drop n tokens)) (same i) ∙ no_sign_there tokens tokens 0 i d itself lt none
  where
    same : (k : ℕ) → k ≡ 0 + k
    same k = omega arith

    itself : AreFrom tokens 0 tokens
    itself = record {
      count = sym (same (length tokens));
      texts = λ k e _. ap (λ n. (get_or tokens n e).text) (same k);
      starts = λ k e _. ap (λ n. (get_or tokens n e).start) (same k);
      ends = λ k e _. ap (λ n. (get_or tokens n e).end) (same k);
    }

-- a text that begins with another letter
other_first : (letter : ℕ) (text : List ℕ) → get_or text 0 0 ≢ letter → bytes_eq (letter ∷ []) text ≡ false
other_first letter text other = sym (bytes_eq-other (letter ∷ []) text (λ same. other (ap (λ l. get_or l 0 0) (sym same))))

-- a token's text begins with the first of its letters
token_first : (letters : List ℕ) → get_or (token_text letters) 0 0 ≡ get_or letters 0 0
token_first [] = refl
token_first (l ∷ letters) = at (is_joining l)
  where
    at : (b : Bool) → get_or (if b then l ∷ [] else l ∷ letters) 0 0 ≡ l
    at true = refl
    at false = refl

-- so is a token whose letters begin with another
pub other_token : (letter : ℕ) (letters : List ℕ) (t : Token) → token_text letters ≡ t.text → get_or letters 0 0 ≢ letter → is_text (letter ∷ []) t ≡ false
other_token letter letters t is other =
    ap (bytes_eq (letter ∷ [])) (sym is)
    ∙ other_first letter (token_text letters) (λ same. other (sym (token_first letters) ∙ same))

-- letters that begin with neither an apostrophe nor a hyphen are their text
pub whole_letters : (letters : List ℕ) → get_or letters 0 0 ≢ 0x27 → get_or letters 0 0 ≢ 0x2D → token_text letters ≡ letters
whole_letters [] quote dash = refl
whole_letters (l ∷ letters) quote dash =
    cond-false (is_joining l) (l ∷ []) (l ∷ letters) (or-false (l == 0x27) (l == 0x2D) (ne_eqb l 0x27 quote) (ne_eqb l 0x2D dash))
  where
    or-false : (a b : Bool) → a ≡ false → b ≡ false → (a || b) ≡ false
    or-false true b is_a is_b = is_a
    or-false false b is_a is_b = is_b

-- a plain token begins no sign
pub no_sign_if_plain : (tokens : List Token) (i : ℕ) (d : Token) (text : List ℕ) → i < length tokens → IsPlain text → text ≡ (get_or tokens i d).text
    → may_begin_sign (drop i tokens) ≡ false
no_sign_if_plain tokens i d text within plain is =
    none_but_parenthesis tokens i d within (ap (bytes_eq (codes "(")) (sym is) ∙ plain.parenthesis)

-- whether they are a sign, where the first is `(`
pub sign_after_parenthesis : (tokens : List Token) (i : ℕ) (d : Token) → i + 2 < length tokens → is_text (codes "(") (get_or tokens i d) ≡ true
    → ((is_text (codes "c") (get_or tokens (i + 1) d) && not (get_or tokens (i + 1) d).after_blank)
    && (is_text (codes ")") (get_or tokens (i + 2) d) && not (get_or tokens (i + 2) d).after_blank))
    ≡ begins_sign (drop i tokens)
sign_after_parenthesis tokens i d lt first =
    let a = get_or tokens i d in
    let b = get_or tokens (i + 1) d in
    let c = get_or tokens (i + 2) d in
    regroup (is_text (codes "c") b && not b.after_blank) (is_text (codes ")") c) (not c.after_blank)
    ∙ sym (ap (λ v. v && is_text (codes "c") b && not b.after_blank && is_text (codes ")") c && not c.after_blank) first)
    ∙ ap begins_sign (sym (next_three tokens i d lt))
  where
    regroup : (x y z : Bool) → (x && (y && z)) ≡ ((x && y) && z)
    regroup true y z = refl
    regroup false y z = refl

-- a sign has three tokens
pub sign_within : (tokens : List Token) (i : ℕ) → begins_sign (drop i tokens) ≡ true → i + 2 < length tokens
sign_within tokens i sign = at (drop i tokens) sign (length-drop i tokens)
  where
    at : (ts : List Token) → begins_sign ts ≡ true → length ts ≡ length tokens - i → i + 2 < length tokens
    at [] is same = absurd (true≢false (sym is))
    at (a ∷ []) is same = absurd (true≢false (sym is))
    at (a ∷ b ∷ []) is same = absurd (true≢false (sym is))
    at (a ∷ b ∷ c ∷ ts) is same = omega arith

-- ---- what is taken

pub no_token : Token
no_token = record { text = []; start = 0; end = 0; after_blank = false }

-- a sign, by its parts
pub sign_taken : (tokens : List Token) (i start end : ℕ) (blank : Bool) → begins_sign (drop i tokens) ≡ true
    → start ≡ (get_or tokens i no_token).start → end ≡ (get_or tokens (i + 2) no_token).end → blank ≡ (get_or tokens i no_token).after_blank
    → record { text = codes "copyright"; start = start; end = end; after_blank = blank } ∷ single_signs (drop (i + 3) tokens)
    ≡ single_signs (drop i tokens)
sign_taken tokens i start end blank sign starts ends after =
    let a = get_or tokens i no_token in
    let b = get_or tokens (i + 1) no_token in
    let c = get_or tokens (i + 2) no_token in
    let rest = drop (i + 3) tokens in
    let parts : drop i tokens ≡ a ∷ b ∷ c ∷ rest = next_three tokens i no_token (sign_within tokens i sign) in
    ap (λ n. let t : Token = record { text = codes "copyright"; start = n; end = end; after_blank = blank } in t ∷ single_signs rest) starts
    ∙ ap (λ n. let t : Token = record { text = codes "copyright"; start = a.start; end = n; after_blank = blank } in t ∷ single_signs rest) ends
    ∙ ap (λ n. let t : Token = record { text = codes "copyright"; start = a.start; end = c.end; after_blank = n } in t ∷ single_signs rest) after
    ∙ sym (sign_of_three a b c rest (sym (ap begins_sign parts) ∙ sign))
    ∙ ap single_signs (sym parts)

-- another token, by its parts
pub token_taken : (tokens : List Token) (i : ℕ) (text : List ℕ) (start end : ℕ) (blank : Bool) → i < length tokens
    → begins_sign (drop i tokens) ≡ false → HasWords text → text ≡ (get_or tokens i no_token).text → start ≡ (get_or tokens i no_token).start
    → end ≡ (get_or tokens i no_token).end → blank ≡ (get_or tokens i no_token).after_blank
    → record { text = text; start = start; end = end; after_blank = blank } ∷ single_signs (drop (i + 1) tokens) ≡ single_signs (drop i tokens)
token_taken tokens i text start end blank lt none words texts starts ends after =
    let t = get_or tokens i no_token in
    let rest = drop (i + 1) tokens in
    let parts : drop i tokens ≡ t ∷ rest = next_token tokens i no_token lt in
    ap (λ l. let u : Token = record { text = l; start = start; end = end; after_blank = blank } in u ∷ single_signs rest) texts
    ∙ ap (λ n. let u : Token = record { text = t.text; start = n; end = end; after_blank = blank } in u ∷ single_signs rest) starts
    ∙ ap (λ n. let u : Token = record { text = t.text; start = t.start; end = n; after_blank = blank } in u ∷ single_signs rest) ends
    ∙ ap (λ n. let u : Token = record { text = t.text; start = t.start; end = t.end; after_blank = n } in u ∷ single_signs rest) after
    ∙ sym (token_alone t rest (sym (ap begins_sign parts) ∙ none) (words_no_sign t (subst HasWords texts words)))
    ∙ ap single_signs (sym parts)
