-- Letters of cells, tokens of parts, and single signs, step by step.
use Rattle.std.proofs.Common.{◌≡◌, ℕ, zero, suc, ◌+◌, ◌-◌, ◌<◌, ◌≤◌, Bool, true, false, List, [], ◌∷◌, ◌++◌, length, take, drop, map, get_or, set, refl, sym, ap, ap₂, ◌∙◌, ⊎_elim, append_assoc, arith}
use Rattle.std.specs.Prelude.{encode_utf8_all}
use Rattle.std.specs.Char.{encode_utf8}
use Rattle.std.specs.List.{swap}
use Rattle.std.proofs.lemmas.Bool.{cases_lt, cond-true, cond-false}
use Rattle.std.proofs.lemmas.Grind.{flat_map-append}
use Rattle.std.proofs.lemmas.List.{append-nil, map-append, take-map, drop-map, length-map, length-append, length-drop, drop_more, take_more, take-set-le, drop-set-lt, get_or-set_same, get_or-set_other, get_or_default, length-set, take_at, drop_at, get_or-drop}
use Rattle.lic_kind.specs.Kinds.{spell}
use Rattle.lic_trim.specs.declared.source.SourceChar.{SourceChar}
use Rattle.lic_kind.specs.LineRules.{LineRules}
use Rattle.lic_trim.specs.Texts.{groups}
use Rattle.lic_trim.specs.declared.cut.LineCut.{LineCut}
use Rattle.lic_lines.specs.Cells.{Cell, Blank, Word, cell_of, blank_for, left_of, cells_of_cut}
use Rattle.lic_lines.specs.Streaks.{end_after, streaks_joined}
use Rattle.lic_lines.specs.Tokens.{Token, both_words, tokens_after, tokens_from, cell_letters, letters_of, first_tokens, part_tokens, tokens_of_cells, is_sign_in_parentheses, sign_from, as_sign, single_signs, token_in, tokens_in}
use Rattle.lic_lines.specs.declared.tokens.FirstToken.{FirstToken}
use Rattle.lic_lines.proofs.Gaps.{no_streaks, streaks_joined-gap, first_tokens-gap}

encode_append : (cs ds : List ℕ) → encode_utf8_all (cs ++ ds) ≡ encode_utf8_all cs ++ encode_utf8_all ds
encode_append [] ds = refl
encode_append (c ∷ cs) ds = ap (λ l. encode_utf8 c ++ l) (encode_append cs ds) ∙ sym (append_assoc (encode_utf8 c) (encode_utf8_all cs) (encode_utf8_all ds))

pub letters_more : (cells : List Cell) (i : ℕ) → i < length cells
    → encode_utf8_all (letters_of (drop i cells))
    ≡ encode_utf8_all (cell_letters (get_or cells i Blank)) ++ encode_utf8_all (letters_of (drop (i + 1) cells))
letters_more cells i lt =
    ap (λ l. encode_utf8_all (letters_of l)) (drop_more cells i Blank lt)
    ∙ encode_append (cell_letters (get_or cells i Blank)) (letters_of (drop (i + 1) cells))

pub word_letters_more : (word : List SourceChar) (i : ℕ) (d : SourceChar) → i < length word
    → encode_utf8_all (letters_of (map Word (take (i + 1) word)))
    ≡ encode_utf8_all (letters_of (map Word (take i word))) ++ encode_utf8_all (spell (get_or word i d).char)
word_letters_more word i d lt =
    let front = map Word (take i word) in
    let x = get_or word i d in
    ap (λ l. encode_utf8_all (letters_of (map Word l))) (take_more word i d lt)
    ∙ ap (λ l. encode_utf8_all (letters_of l)) (map-append Word (take i word) (x ∷ []))
    ∙ ap encode_utf8_all (flat_map-append cell_letters front (Word x ∷ []))
    ∙ encode_append (letters_of front) (spell x.char ++ [])
    ∙ ap (λ l. encode_utf8_all (letters_of front) ++ encode_utf8_all l) (append-nil (spell x.char))

-- the last of some word characters ends where they end
pub end_of_word : (at : ℕ) (word : List SourceChar) (d : SourceChar) → 0 < length word → end_after at (map Word word) ≡ (get_or word (length word - 1) d).end
end_of_word at [] d some = absurd (omega arith)
end_of_word at (s ∷ []) d some = refl
end_of_word at (s ∷ t ∷ word) d some =
    let offset : length (s ∷ t ∷ word) - 1 ≡ suc (length (t ∷ word) - 1) = omega arith in
    end_of_word s.end (t ∷ word) d (omega arith) ∙ ap (λ i. (get_or (s ∷ t ∷ word) i d).end) (sym offset)

-- the token of some word characters
pub word_is_token : (after_blank : Bool) (word : List SourceChar) (d : SourceChar) (text : List ℕ) → 0 < length word
    → text ≡ encode_utf8_all (letters_of (map Word word))
    → record {
      text = text;
      start = (get_or word 0 d).start;
      end = (get_or word (length word - 1) d).end;
      after_blank =
          after_blank;
    } ∷ [] ≡ tokens_from after_blank (map Word word ∷ [])
word_is_token after_blank [] d text some is = absurd (omega arith)
word_is_token after_blank (s ∷ word) d text some is =
    ap₂ (λ letters end. let t : Token =
    record { text = letters; start = s.start; end = end; after_blank = after_blank } in t ∷ []) is
    (sym (end_of_word s.start (s ∷ word) d some))

-- ---- parts

-- blanks for what was taken give no token
tokens_of_blank : (rules : LineRules) (n : ℕ) (cells : List Cell)
    → first_tokens (streaks_joined rules (blank_for n ++ cells)) ≡ first_tokens (streaks_joined rules cells)
tokens_of_blank rules zero cells = refl
tokens_of_blank rules (suc n) cells =
    ap first_tokens (streaks_joined-gap rules [] cells) ∙ first_tokens-gap (streaks_joined rules []) (streaks_joined rules cells)
    ∙ ap (λ l. first_tokens l ++ first_tokens (streaks_joined rules cells)) (no_streaks rules)

tokens_before_blank : (rules : LineRules) (n : ℕ) (cells : List Cell)
    → first_tokens (streaks_joined rules (cells ++ blank_for n)) ≡ first_tokens (streaks_joined rules cells)
tokens_before_blank rules zero cells = ap (λ l. first_tokens (streaks_joined rules l)) (append-nil cells)
tokens_before_blank rules (suc n) cells =
    ap first_tokens (streaks_joined-gap rules cells []) ∙ first_tokens-gap (streaks_joined rules cells) (streaks_joined rules [])
    ∙ ap (λ l. first_tokens (streaks_joined rules cells) ++ first_tokens l) (no_streaks rules) ∙ append-nil (first_tokens (streaks_joined rules cells))

pub tokens_of_cut : (rules : LineRules) (cut : LineCut) (line : List SourceChar)
    → tokens_of_cells rules (cells_of_cut cut line) ≡ single_signs (part_tokens rules (left_of cut line))
tokens_of_cut rules cut line =
    let cells = map cell_of (left_of cut line) in
    ap single_signs
    (tokens_before_blank rules cut.tail ((blank_for cut.lead ++ blank_for cut.item) ++ cells)
    ∙ ap (λ l. first_tokens (streaks_joined rules l)) (append_assoc (blank_for cut.lead) (blank_for cut.item) cells)
    ∙ tokens_of_blank rules cut.lead (blank_for cut.item ++ cells)
    ∙ tokens_of_blank rules cut.item cells)

-- what a slice of the line has
pub left_of-range : (cut : LineCut) (line : List SourceChar)
    → take (length line - cut.tail - (cut.lead + cut.item)) (drop (cut.lead + cut.item) line) ≡ left_of cut line
left_of-range cut line =
    let size : length line - cut.tail - (cut.lead + cut.item) ≡ length (drop (cut.lead + cut.item) line) - cut.tail =
    omega (arith, length-drop (cut.lead + cut.item) line) in
    ap (λ n. take n (drop (cut.lead + cut.item) line)) size

-- tokens after those that were there
pub tokens_past : (old pushed : List FirstToken) (more : List Token) → tokens_in pushed ≡ tokens_in old ++ more → length old ≤ length pushed
tokens_past old pushed more e = omega (arith, ap length e, length-append (tokens_in old) more, length-map pushed token_in, length-map old token_in)

pub take_old : (old pushed : List FirstToken) (more : List Token) → tokens_in pushed ≡ tokens_in old ++ more
    → tokens_in (take (length old) pushed) ≡ tokens_in old
take_old old pushed more e = sym (take-map token_in (length old) pushed) ∙ ap (take (length old)) e
    ∙ take_at (tokens_in old) more (length old) (length-map old token_in)

pub drop_old : (old pushed : List FirstToken) (more : List Token) → tokens_in pushed ≡ tokens_in old ++ more → tokens_in (drop (length old) pushed) ≡ more
drop_old old pushed more e = sym (drop-map token_in (length old) pushed) ∙ ap (drop (length old)) e
    ∙ drop_at (tokens_in old) more (length old) (length-map old token_in)

-- ---- single signs, where the token at one offset is moved to another before it

swap_is : (xs : List FirstToken) (i j : ℕ) (d : FirstToken) → i < length xs → j < length xs → swap xs i j ≡ set (set xs i (get_or xs j d)) j (get_or xs i d)
swap_is [] i j d first second = absurd (omega arith)
swap_is (x ∷ xs) i j d first second = ap₂ (λ a b. set (set (x ∷ xs) i a) j b) (get_or_default (x ∷ xs) j x d second) (get_or_default (x ∷ xs) i x d first)

module _ (xs : List FirstToken) (kept at : ℕ) (order : kept ≤ at) (within : at < length xs) (d : FirstToken) where
  moved : swap xs kept at ≡ set (set xs kept (get_or xs at d)) at (get_or xs kept d)
  moved = swap_is xs kept at d (omega arith) within

  pub swap_kept : get_or (swap xs kept at) kept d ≡ get_or xs at d
  swap_kept =
      let x = get_or xs at d in
      let y = get_or xs kept d in
      let long : length (set xs kept x) ≡ length xs = length-set xs kept x in
      ap (λ l. get_or l kept d) moved
      ∙ ⊎_elim
      (λ before. get_or-set_other (set xs kept x) at kept y d (omega arith) ∙ get_or-set_same xs kept x d (omega arith))
      (λ here. let same : at ≡ kept = omega arith in
      ap (λ i. get_or (set (set xs kept x) i y) kept d) same
      ∙ get_or-set_same (set xs kept x) kept y d (omega arith) ∙ ap (λ i. get_or xs i d) (sym same))
      (cases_lt kept at)

  pub swap_after : (i : ℕ) → at < i → get_or (swap xs kept at) i d ≡ get_or xs i d
  swap_after i past =
      ap (λ l. get_or l i d) moved
      ∙ get_or-set_other (set xs kept (get_or xs at d)) at i (get_or xs kept d) d (omega arith)
      ∙ get_or-set_other xs kept i (get_or xs at d) d (omega arith)

  pub length-moved : length (swap xs kept at) ≡ length xs
  length-moved = ap length moved ∙ length-set (set xs kept (get_or xs at d)) at (get_or xs kept d) ∙ length-set xs kept (get_or xs at d)

  -- the tokens that are kept, with t after them, and what is left
  kept_front : (t : FirstToken) → take (kept + 1) (set (swap xs kept at) kept t) ≡ take kept xs ++ t ∷ []
  kept_front t =
      let items = set (swap xs kept at) kept t in
      let long : length items ≡ length xs = length-set (swap xs kept at) kept t ∙ length-moved in
      take_more items kept d (omega arith)
      ∙ ap₂ (λ l e. l ++ e ∷ [])
      (take-set-le kept (swap xs kept at) kept t (omega arith) ∙ ap (take kept) moved
      ∙ take-set-le kept (set xs kept (get_or xs at d)) at (get_or xs kept d) order
      ∙ take-set-le kept xs kept (get_or xs at d) (omega arith))
      (get_or-set_same (swap xs kept at) kept t d (omega (arith, length-moved)))

  kept_rest : (t : FirstToken) (n : ℕ) → at < n → drop n (set (swap xs kept at) kept t) ≡ drop n xs
  kept_rest t n past =
      drop-set-lt n (swap xs kept at) kept t (omega arith) ∙ ap (drop n) moved
      ∙ drop-set-lt n (set xs kept (get_or xs at d)) at (get_or xs kept d) past ∙ drop-set-lt n xs kept (get_or xs at d) (omega arith)

  front_tokens : (t : FirstToken) → tokens_in (take (kept + 1) (set (swap xs kept at) kept t)) ≡ tokens_in (take kept xs) ++ token_in t ∷ []
  front_tokens t = ap tokens_in (kept_front t) ∙ map-append token_in (take kept xs) (t ∷ [])

  -- three tokens that are a sign
  pub sign_step : at + 2 < length xs
      → is_sign_in_parentheses (token_in (get_or xs at d)) (token_in (get_or xs (at + 1) d))
      (token_in (get_or xs (at + 2) d)) ≡ true
      → (t : FirstToken) → token_in t ≡ sign_from (token_in (get_or xs at d)) (token_in (get_or xs (at + 2) d))
      → tokens_in (take (kept + 1) (set (swap xs kept at) kept t))
      ++ single_signs (tokens_in (drop (at + 3) (set (swap xs kept at) kept t)))
      ≡ tokens_in (take kept xs) ++ single_signs (tokens_in (drop at xs))
  sign_step more sign t value =
      let a = get_or xs at d in
      let b = get_or xs (at + 1) d in
      let c = get_or xs (at + 2) d in
      let rest = tokens_in (drop (at + 3) xs) in
      let second : at + 1 + 1 ≡ at + 2 = omega arith in
      let third : at + 2 + 1 ≡ at + 3 = omega arith in
      let left : drop at xs ≡ a ∷ b ∷ c ∷ drop (at + 3) xs =
      drop_more xs at d within ∙ ap (λ l. a ∷ l)
      (drop_more xs (at + 1) d (omega arith)
      ∙ ap (λ l. b ∷ l) (ap (λ n. drop n xs) second ∙ drop_more xs (at + 2) d more
      ∙ ap (λ n. c ∷ drop n xs) third)) in
      ap₂ (λ l r. l ++ single_signs (tokens_in r)) (front_tokens t) (kept_rest t (at + 3) (omega arith))
      ∙ append_assoc (tokens_in (take kept xs)) (token_in t ∷ []) (single_signs rest)
      ∙ ap (λ l. tokens_in (take kept xs) ++ l)
      (ap (λ u. u ∷ single_signs rest) value
      ∙ sym (cond-true (is_sign_in_parentheses (token_in a) (token_in b) (token_in c))
      (sign_from (token_in a) (token_in c) ∷ single_signs rest)
      (as_sign (token_in a) ∷ single_signs (token_in b ∷ token_in c ∷ rest)) sign)
      ∙ ap (λ l. single_signs (tokens_in l)) (sym left))

  -- a token that begins no such sign
  pub single_step : (at + 2 < length xs
      → is_sign_in_parentheses (token_in (get_or xs at d)) (token_in (get_or xs (at + 1) d))
      (token_in (get_or xs (at + 2) d)) ≡ false)
      → (t : FirstToken) → token_in t ≡ as_sign (token_in (get_or xs at d))
      → tokens_in (take (kept + 1) (set (swap xs kept at) kept t))
      ++ single_signs (tokens_in (drop (at + 1) (set (swap xs kept at) kept t)))
      ≡ tokens_in (take kept xs) ++ single_signs (tokens_in (drop at xs))
  single_step no_sign t value =
      let a = get_or xs at d in
      ap₂ (λ l r. l ++ single_signs (tokens_in r)) (front_tokens t) (kept_rest t (at + 1) (omega arith))
      ∙ append_assoc (tokens_in (take kept xs)) (token_in t ∷ []) (single_signs (tokens_in (drop (at + 1) xs)))
      ∙ ap (λ l. tokens_in (take kept xs) ++ l)
      (ap (λ u. u ∷ single_signs (tokens_in (drop (at + 1) xs))) value
      ∙ first_single (drop (at + 1) xs) (λ long. first_three long)
      ∙ ap (λ l. single_signs (tokens_in l)) (sym (drop_more xs at d within)))
    where
      -- the test of the first three of what is left
      first_single : (ts : List FirstToken)
          → (1 < length ts → is_sign_in_parentheses (token_in (get_or xs at d)) (token_in (get_or ts 0 d))
          (token_in (get_or ts 1 d)) ≡ false)
          → as_sign (token_in (get_or xs at d)) ∷ single_signs (tokens_in ts) ≡ single_signs (token_in (get_or xs at d) ∷ tokens_in ts)
      first_single [] none = refl
      first_single (b ∷ []) none = refl
      first_single (b ∷ c ∷ ts) none =
          sym (cond-false (is_sign_in_parentheses (token_in (get_or xs at d)) (token_in b) (token_in c))
          (sign_from (token_in (get_or xs at d)) (token_in c) ∷ single_signs (tokens_in ts))
          (as_sign (token_in (get_or xs at d)) ∷ single_signs (token_in b ∷ token_in c ∷ tokens_in ts))
          (none (omega arith)))

      first_three : 1 < length (drop (at + 1) xs)
          → is_sign_in_parentheses (token_in (get_or xs at d)) (token_in (get_or (drop (at + 1) xs) 0 d))
          (token_in (get_or (drop (at + 1) xs) 1 d)) ≡ false
      first_three long =
          let first : at + 1 + 0 ≡ at + 1 = omega arith in
          let second : at + 1 + 1 ≡ at + 2 = omega arith in
          ap₂ (λ b c. is_sign_in_parentheses (token_in (get_or xs at d)) (token_in b) (token_in c))
          (get_or-drop (at + 1) xs 0 d ∙ ap (λ i. get_or xs i d) first) (get_or-drop (at + 1) xs 1 d ∙ ap (λ i. get_or xs i d) second)
          ∙ no_sign (omega (arith, length-drop (at + 1) xs))

-- no characters have no tokens
pub no_tokens_after : (rules : LineRules) (after_blank : Bool) → tokens_after rules after_blank [] ≡ []
no_tokens_after rules after_blank = ap (λ l. tokens_from after_blank (groups both_words l)) (no_streaks rules)
