-- A whole line ends in a blank, so the tokens of a text are those of its lines, one after another.
use Rattle.std.proofs.Common.{◌≡◌, ℕ, zero, suc, ◌+◌, ◌-◌, ◌<◌, ◌≤◌, Bool, true, false, not, ◌&&◌, List, [], ◌∷◌, ◌++◌, length, take, drop, map, refl, sym, ap, ap₂, ◌∙◌, subst, ⊎_elim, append_assoc, arith, length-append}
use Rattle.std.specs.Prelude.{codes, filter, option_to_list, ◌==◌}
use Rattle.std.specs.List.{flat_map, before_first, position_or_len, onto_first}
use Rattle.std.specs.Char.{is_whitespace}
use Rattle.std.proofs.lemmas.Bool.{cases_Bool, cases_lt, cond-true, cond-false, and_left, and_right, eqb-true}
use Rattle.std.proofs.lemmas.List.{append-nil, map-append, length-map, length-take, drop_at, drop-append-le, drop_all}
use Rattle.std.proofs.lemmas.List.Concat.{flat_map-append}
use Rattle.lic_kind.specs.Kinds.{is_dropped}
use Rattle.lic_trim.specs.Texts.{is_sequence, longest_end, cut_after, groups}
use Rattle.lic_trim.specs.declared.source.SourceChar.{SourceChar}
use Rattle.lic_trim.specs.Sources.{chars_of, lines_of, without_dropped}
use Rattle.lic_kind.specs.LineRules.{LineRules}
use Rattle.lic_trim.specs.declared.line_part.LinePart.{LinePart}
use Rattle.lic_trim.specs.Lines.{whole_line, is_tail_piece, item_length, is_item_form, lets_item, lead_length, item_after_lead, tail_length}
use Rattle.lic_lines.specs.Cells.{Cell, Blank, Mark, Word, blank_for, cells_of_cut, cell_of, line_cells, cells_of}
use Rattle.lic_lines.specs.Streaks.{streaks_joined}
use Rattle.lic_lines.specs.Tokens.{Token, both_words, tokens_from, first_tokens, is_text, is_sign_in_parentheses, sign_from, as_sign, single_signs, tokens_of_cells, line_tokens, text_tokens}
use Rattle.lic_lines.proofs.Gaps.{no_streaks, streaks_joined-gap, first_tokens-gap}
use Rattle.lic_trim.proofs.ItemLemmas.{char_of, item_none, few_after}
use Rattle.lic_trim.proofs.TailSequences.{greatest_ge}

-- ---- the lines
module _ {A : Type 0} (ends : A → Bool) where
  onto_first-append : (x : A) (p : List A) (ps qs : List (List A)) → onto_first x ((p ∷ ps) ++ qs) ≡ onto_first x (p ∷ ps) ++ qs
  onto_first-append x p ps qs = refl

  cut_some : (xs : List A) (x : A) → ends x ≡ true → (p : List A) × (ps : List (List A)) × (cut_after ends (xs ++ x ∷ []) ≡ p ∷ ps)
  cut_some [] x e = (x ∷ [], [], cond-true (ends x) _ _ e)
  cut_some (z ∷ xs) x e =
      ⊎_elim
      (λ yes. (z ∷ [], _, cond-true (ends z) _ _ yes))
      (λ none. let some = cut_some xs x e in (z ∷ some.0, some.1, cond-false (ends z) _ _ none ∙ ap (onto_first z) some.2))
      (cases_Bool (ends z))

  pub cut_after-end : (xs : List A) (x : A) (ys : List A) → ends x ≡ true → cut_after ends (xs ++ x ∷ ys) ≡ cut_after ends (xs ++ x ∷ []) ++ cut_after ends ys
  cut_after-end [] x ys e = cond-true (ends x) _ _ e ∙ ap (λ l. l ++ cut_after ends ys) (sym (cond-true (ends x) ((x ∷ []) ∷ []) (onto_first x []) e))
  cut_after-end (z ∷ xs) x ys e =
      let rest = cut_after-end xs x ys e in
      let some = cut_some xs x e in
      ⊎_elim
      (λ yes. cond-true (ends z) _ _ yes ∙ ap (λ l. (z ∷ []) ∷ l) rest
      ∙ ap (λ l. l ++ cut_after ends ys)
      (sym (cond-true (ends z) ((z ∷ []) ∷ cut_after ends (xs ++ x ∷ []))
      (onto_first z (cut_after ends (xs ++ x ∷ []))) yes)))
      (λ none.
      cond-false (ends z) _ _ none ∙ ap (onto_first z) (rest ∙ ap (λ l. l ++ cut_after ends ys) some.2)
      ∙ ap (λ l. l ++ cut_after ends ys)
      (ap (onto_first z) (sym some.2)
      ∙ sym (cond-false (ends z) ((z ∷ []) ∷ cut_after ends (xs ++ x ∷ []))
      (onto_first z (cut_after ends (xs ++ x ∷ []))) none)))
      (cases_Bool (ends z))

  -- the last part ends in what ended it
  pub cut_last : (xs : List A) (x : A) → ends x ≡ true
      → (parts : List (List A)) × (part : List A) × (cut_after ends (xs ++ x ∷ []) ≡ parts ++ (part ++ x ∷ []) ∷ [])
  cut_last [] x e = ([], [], cond-true (ends x) _ _ e)
  cut_last (z ∷ xs) x e =
      let known = cut_last xs x e in
      ⊎_elim
      (λ yes. ((z ∷ []) ∷ known.0, known.1, cond-true (ends z) _ _ yes ∙ ap (λ l. (z ∷ []) ∷ l) known.2))
      (λ none. onto known.0 known.1 (cond-false (ends z) _ _ none ∙ ap (onto_first z) known.2))
      (cases_Bool (ends z))
    where
      onto : {parts' : List (List A)} (parts : List (List A)) (part : List A)
          → parts' ≡ onto_first z (parts ++ (part ++ x ∷ []) ∷ [])
          → (qs : List (List A)) × (q : List A) × (parts' ≡ qs ++ (q ++ x ∷ []) ∷ [])
      onto [] part e = ([], z ∷ part, e)
      onto (q ∷ qs) part e = ((z ∷ q) ∷ qs, part, e)

-- the parts after each such element: each but the last ends in one
abbrev pub AllButLastEnd : {A : Type 0} → (A → Bool) → List (List A) → Type 0
AllButLastEnd ends [] = Unit {0}
AllButLastEnd ends (part ∷ []) = Unit {0}
AllButLastEnd {A} ends (part ∷ next ∷ parts) =
    ((front : List A) × (last : A) × (part ≡ front ++ last ∷ []) × (ends last ≡ true))
    × AllButLastEnd ends (next ∷ parts)

cut_after-ends : {A : Type 0} (ends : A → Bool) (xs : List A) → AllButLastEnd ends (cut_after ends xs)
cut_after-ends ends [] = tt
cut_after-ends {A} ends (x ∷ xs) =
    ⊎_elim
    (λ yes. subst (AllButLastEnd ends)
    (sym (cond-true (ends x) ((x ∷ []) ∷ cut_after ends xs) (onto_first x (cut_after ends xs)) yes))
    (alone (cut_after ends xs) yes (cut_after-ends ends xs)))
    (λ none. subst (AllButLastEnd ends)
    (sym (cond-false (ends x) ((x ∷ []) ∷ cut_after ends xs) (onto_first x (cut_after ends xs)) none))
    (onto (cut_after ends xs) (cut_after-ends ends xs)))
    (cases_Bool (ends x))
  where
    alone : (parts : List (List A)) → ends x ≡ true → AllButLastEnd ends parts → AllButLastEnd ends ((x ∷ []) ∷ parts)
    alone [] last h = tt
    alone (part ∷ parts) last h = (([], x, refl, last), h)

    onto : (parts : List (List A)) → AllButLastEnd ends parts → AllButLastEnd ends (onto_first x parts)
    onto [] h = tt
    onto (part ∷ []) h = tt
    onto (part ∷ next ∷ parts) h = ((x ∷ h.0.0, h.0.1, ap (λ l. x ∷ l) h.0.2, h.0.3), h.1)

-- ---- one line

position_within : (xs : List ℕ) (c : ℕ) (ys : List ℕ) → is_whitespace c ≡ true → position_or_len is_whitespace (xs ++ c ∷ ys) ≤ length xs
position_within [] c ys white = omega (arith, cond-false (not (is_whitespace c)) (1 + position_or_len is_whitespace ys) 0 (ap not white))
position_within (x ∷ xs) c ys white =
    ⊎_elim
    (λ dark. omega (arith, cond-true (not (is_whitespace x)) (1 + position_or_len is_whitespace (xs ++ c ∷ ys)) 0 dark, position_within xs c ys white))
    (λ light. omega (arith, cond-false (not (is_whitespace x)) (1 + position_or_len is_whitespace (xs ++ c ∷ ys)) 0 light))
    (cases_Bool (not (is_whitespace x)))

-- an item ends before any white space
item_within : (rules : LineRules) (xs : List ℕ) (c : ℕ) (ys : List ℕ) → is_whitespace c ≡ true → item_length rules (xs ++ c ∷ ys) ≤ length xs
item_within rules xs c ys white =
    let text = xs ++ c ∷ ys in
    let form = before_first is_whitespace text in
    let test = rules.items && is_item_form form && lets_item form (drop (length form) text) in
    ⊎_elim
    (λ yes. omega (arith, cond-true test (length form) 0 yes, length-take (position_or_len is_whitespace text) text, position_within xs c ys white))
    (λ none. omega (arith, cond-false test (length form) 0 none))
    (cases_Bool test)

-- what is left of a text that ends in white space has that as a tail
tail_some : (rules : LineRules) (text : List ℕ) (c : ℕ) → is_whitespace c ≡ true → 0 < longest_end (is_sequence (is_tail_piece rules)) (text ++ c ∷ [])
tail_some rules text c white =
    let whole = text ++ c ∷ [] in
    let long : length whole ≡ length text + 1 = length-append text (c ∷ []) in
    let offset : length whole - 1 ≡ length text = omega arith in
    let last : drop (length whole - 1) whole ≡ c ∷ [] = ap (λ n. drop n whole) offset ∙ drop_at text (c ∷ []) (length text) refl in
    greatest_ge (λ n. is_sequence (is_tail_piece rules) (drop (length whole - n) whole)) (length whole) 1 (omega arith)
    (subst (λ l. is_sequence (is_tail_piece rules) l ≡ true) (sym last) (rw white refl))

blank_some : (n : ℕ) → 0 < n → blank_for n ≡ Blank ∷ []
blank_some zero h = absurd (omega arith)
blank_some (suc n) h = refl

take_none : (n : ℕ) → take {A = SourceChar} n [] ≡ []
take_none zero = refl
take_none (suc n) = refl

-- a cut that takes the whole line as its lead
all_lead : (line : List SourceChar) (lead item tail : ℕ) → 0 < length line → length line ≤ lead → item ≡ 0 → tail ≡ 0
    → cells_of_cut (record { lead = lead; item = item; tail = tail }) line ≡ Blank ∷ []
all_lead line lead item tail some all no_item no_tail =
    let none : drop (lead + item) line ≡ [] = drop_all (lead + item) line (omega arith) in
    (λ i. blank_some lead (omega arith) i ++ blank_for (no_item i) ++ map cell_of (take (length (none i) - tail) (none i)) ++ blank_for (no_tail i))
    ∙ ap (λ l. (Blank ∷ []) ++ [] ++ map cell_of l ++ []) (take_none (0 - tail))

module _ (rules : LineRules) (part : LinePart) where
  item_fits : (xs : List ℕ) (c : ℕ) → is_whitespace c ≡ true → item_after_lead rules part (xs ++ c ∷ []) ≤ length xs
  item_fits xs c white =
      let past = option_to_list part.past in
      ⊎_elim
      (λ on. omega (
        arith,
        cond-true part.has_front (item_length rules ((xs ++ c ∷ []) ++ past)) 0 on,
        ap (item_length rules) (append_assoc xs (c ∷ []) past),
        item_within rules xs c past white,
      ))
      (λ off. omega (arith, cond-false part.has_front (item_length rules ((xs ++ c ∷ []) ++ past)) 0 off))
      (cases_Bool part.has_front)

  no_item : item_after_lead rules part [] ≡ 0
  no_item = ⊎_elim
      (λ on. cond-true part.has_front (item_length rules ([] ++ option_to_list part.past)) 0 on
      ∙ item_none rules [] (option_to_list part.past) (omega arith) (few_after part.past))
      (λ off. cond-false part.has_front (item_length rules ([] ++ option_to_list part.past)) 0 off)
      (cases_Bool part.has_front)

  no_tail : tail_length rules part [] ≡ 0
  no_tail = ⊎_elim (λ on. cond-true part.has_end 0 0 on) (λ off. cond-false part.has_end 0 0 off) (cases_Bool part.has_end)

  -- a line that ends in white space, and has its end, leaves a blank last
  pub line_ends : (front : List SourceChar) (nl : SourceChar) → is_whitespace nl.char ≡ true → part.has_end ≡ true
      → (cells : List Cell) × (line_cells rules part (front ++ nl ∷ []) ≡ cells ++ Blank ∷ [])
  line_ends front nl white has_end =
      let line = front ++ nl ∷ [] in
      let text = chars_of line in
      let before = chars_of front in
      let split : text ≡ before ++ nl.char ∷ [] = map-append char_of front (nl ∷ []) in
      let many : length text ≡ length line = length-map line char_of in
      let long : length text ≡ length before + 1 = ap length split ∙ length-append before (nl.char ∷ []) in
      let lead = lead_length rules part text in
      let item = item_after_lead rules part (drop lead text) in
      let tail = tail_length rules part (drop item (drop lead text)) in
      ⊎_elim
      (λ less.
      let less_is : lead < length text = less in
      let rest : drop lead text ≡ drop lead before ++ nl.char ∷ [] = ap (drop lead) split ∙ drop-append-le lead before (nl.char ∷ []) (omega arith) in
      let fits : item ≤ length (drop lead before) =
      subst (λ l. item_after_lead rules part l ≤ length (drop lead before)) (sym rest)
      (item_fits (drop lead before) nl.char white) in
      let left : drop item (drop lead text) ≡ drop item (drop lead before) ++ nl.char ∷ [] =
      ap (drop item) rest ∙ drop-append-le item (drop lead before) (nl.char ∷ []) fits in
      let end : 0 < tail = subst (λ n. 0 < n)
      (sym (cond-true part.has_end
      (longest_end (is_sequence (is_tail_piece rules)) (drop item (drop lead text))) 0 has_end))
      (subst (λ l. 0 < longest_end (is_sequence (is_tail_piece rules)) l) (sym left)
      (tail_some rules (drop item (drop lead before)) nl.char white)) in (
        _,
        ap (λ b. blank_for lead ++ blank_for item
            ++ map cell_of (take (length (drop (lead + item) line) - tail) (drop (lead + item) line)) ++ b)
            (blank_some tail end),
      ))
      (λ all.
      let all_is : length text ≤ lead = all in
      let none' : drop lead text ≡ [] = drop_all lead text all_is in
      let item_is : item ≡ 0 = ap (item_after_lead rules part) none' ∙ no_item in
      let no_left : drop item (drop lead text) ≡ [] = (λ i. drop (item_is i) (none' i)) in
      ([], all_lead line lead item tail (omega arith) (omega arith) item_is (ap (tail_length rules part) no_left ∙ no_tail)))
      (cases_lt lead (length text))

-- ---- a text
filter_append : {A : Type 0} (keeps : A → Bool) (xs ys : List A) → filter keeps (xs ++ ys) ≡ filter keeps xs ++ filter keeps ys
filter_append keeps [] ys = refl
filter_append keeps (x ∷ xs) ys =
    ⊎_elim
    (λ yes. cond-true (keeps x) _ _ yes ∙ ap (λ l. x ∷ l) (filter_append keeps xs ys)
    ∙ ap (λ l. l ++ filter keeps ys) (sym (cond-true (keeps x) (x ∷ filter keeps xs) (filter keeps xs) yes)))
    (λ none. cond-false (keeps x) _ _ none ∙ filter_append keeps xs ys
    ∙ ap (λ l. l ++ filter keeps ys) (sym (cond-false (keeps x) (x ∷ filter keeps xs) (filter keeps xs) none)))
    (cases_Bool (keeps x))

-- the cells of a text up to a line end, and those after it
pub cells_of-line : (rules : LineRules) (front : List SourceChar) (nl : SourceChar) (rest : List SourceChar)
    → nl.char ≡ 0x0A → (cells : List Cell) × (cells_of rules (front ++ nl ∷ []) ≡ cells ++ Blank ∷ [])
    × (cells_of rules (front ++ nl ∷ rest) ≡ cells ++ Blank ∷ cells_of rules rest)
cells_of-line rules front nl rest is_end =
    let f = line_cells rules whole_line in
    let ends = λ (s : SourceChar). s.char == 0x0A in
    let keeps = λ (s : SourceChar). not (is_dropped s.char) in
    let kept : keeps nl ≡ true = ap (λ c. not (is_dropped c)) is_end in
    let is_end_of : ends nl ≡ true = ap (λ c. c == 0x0A) is_end in
    let white : is_whitespace nl.char ≡ true = ap is_whitespace is_end in
    let before = without_dropped front in
    let upto : without_dropped (front ++ nl ∷ []) ≡ before ++ nl ∷ [] =
    filter_append keeps front (nl ∷ []) ∙ ap (λ l. before ++ l) (cond-true (keeps nl) (nl ∷ []) [] kept) in
    let whole : without_dropped (front ++ nl ∷ rest) ≡ before ++ nl ∷ without_dropped rest =
    filter_append keeps front (nl ∷ rest)
    ∙ ap (λ l. before ++ l) (cond-true (keeps nl) (nl ∷ without_dropped rest) (without_dropped rest) kept) in
    let last = cut_last ends before nl is_end_of in
    let blank = line_ends rules whole_line last.1 nl white refl in
    let cells = flat_map f last.0 ++ blank.0 in
    let cells_upto : flat_map f (cut_after ends (before ++ nl ∷ [])) ≡ cells ++ Blank ∷ [] =
    ap (flat_map f) last.2 ∙ flat_map-append f last.0 ((last.1 ++ nl ∷ []) ∷ [])
    ∙ ap (λ l. flat_map f last.0 ++ l) (append-nil (f (last.1 ++ nl ∷ [])) ∙ blank.1)
    ∙ sym (append_assoc (flat_map f last.0) blank.0 (Blank ∷ [])) in (
      cells,
      ap (λ l. flat_map f (lines_of l)) upto ∙ cells_upto,
      ap (λ l. flat_map f (lines_of l)) whole
          ∙ ap (flat_map f) (cut_after-end ends before nl (without_dropped rest) is_end_of)
          ∙ flat_map-append f (cut_after ends (before ++ nl ∷ [])) (lines_of (without_dropped rest))
          ∙ ap (λ l. l ++ cells_of rules rest) cells_upto
          ∙ append_assoc cells (Blank ∷ []) (cells_of rules rest),
    )

-- The first tokens of a text up to a line end, and those after it.
pub first_tokens-line : (rules : LineRules) (front : List SourceChar) (nl : SourceChar) (rest : List SourceChar)
    → nl.char ≡ 0x0A → first_tokens (streaks_joined rules (cells_of rules (front ++ nl ∷ rest)))
    ≡ first_tokens (streaks_joined rules (cells_of rules (front ++ nl ∷ [])))
    ++ first_tokens (streaks_joined rules (cells_of rules rest))
first_tokens-line rules front nl rest is_end =
    let cells = cells_of-line rules front nl rest is_end in
    let tokens = λ (l : List Cell). first_tokens (streaks_joined rules l) in
    ap tokens cells.2
    ∙ ap first_tokens (streaks_joined-gap rules cells.0 (cells_of rules rest))
    ∙ first_tokens-gap (streaks_joined rules cells.0) (streaks_joined rules (cells_of rules rest))
    ∙ ap (λ l. l ++ tokens (cells_of rules rest))
    (sym (ap tokens cells.1 ∙ ap first_tokens (streaks_joined-gap rules cells.0 [])
    ∙ first_tokens-gap (streaks_joined rules cells.0) (streaks_joined rules [])
    ∙ ap (λ l. first_tokens (streaks_joined rules cells.0) ++ first_tokens l) (no_streaks rules) ∙ append-nil _))

-- ---- tokens, signs too

-- nothing is here, or a token after a blank
abbrev pub BeginsAfterBlank : List Token → Type 0
BeginsAfterBlank [] = Unit {0}
BeginsAfterBlank (t ∷ ts) = t.after_blank ≡ true

pub begins_after_blank : (gs : List (List Cell)) → BeginsAfterBlank (tokens_from true gs)
begins_after_blank [] = tt
begins_after_blank ([] ∷ gs) = begins_after_blank gs
begins_after_blank ((Blank ∷ cells) ∷ gs) = begins_after_blank gs
begins_after_blank ((Mark s ∷ cells) ∷ gs) = refl
begins_after_blank ((Word s ∷ cells) ∷ gs) = refl

no_sign-second : (a b c : Token) → b.after_blank ≡ true → is_sign_in_parentheses a b c ≡ false
no_sign-second a b c blank =
    and_left _ (not c.after_blank) (and_left _ (is_text (codes ")") c) (and_right (is_text (codes "(") a && is_text (codes "c") b) (not b.after_blank) (ap not blank)))

no_sign-third : (a b c : Token) → c.after_blank ≡ true → is_sign_in_parentheses a b c ≡ false
no_sign-third a b c blank = and_right _ (not c.after_blank) (ap not blank)

-- a sign of one token or of three does not reach over a blank
pub single_signs-append : (xs ys : List Token) → BeginsAfterBlank ys → single_signs (xs ++ ys) ≡ single_signs xs ++ single_signs ys
single_signs-append [] ys h = refl
single_signs-append (a ∷ []) [] h = refl
single_signs-append (a ∷ []) (b ∷ []) h = refl
single_signs-append (a ∷ []) (b ∷ c ∷ ys) h = cond-false (is_sign_in_parentheses a b c) _ _ (no_sign-second a b c h)
single_signs-append (a ∷ b ∷ []) [] h = refl
single_signs-append (a ∷ b ∷ []) (c ∷ ys) h =
    cond-false (is_sign_in_parentheses a b c) _ _ (no_sign-third a b c h) ∙ ap (λ l. as_sign a ∷ l) (single_signs-append (b ∷ []) (c ∷ ys) h)
single_signs-append (a ∷ b ∷ c ∷ xs) ys h =
    ⊎_elim
    (λ yes.
    cond-true (is_sign_in_parentheses a b c) _ _ yes
    ∙ ap (λ l. sign_from a c ∷ l) (single_signs-append xs ys h)
    ∙ ap (λ l. l ++ single_signs ys)
    (sym (cond-true (is_sign_in_parentheses a b c) (sign_from a c ∷ single_signs xs)
    (as_sign a ∷ single_signs (b ∷ c ∷ xs)) yes)))
    (λ none.
    cond-false (is_sign_in_parentheses a b c) _ _ none
    ∙ ap (λ l. as_sign a ∷ l) (single_signs-append (b ∷ c ∷ xs) ys h)
    ∙ ap (λ l. l ++ single_signs ys)
    (sym (cond-false (is_sign_in_parentheses a b c) (sign_from a c ∷ single_signs xs)
    (as_sign a ∷ single_signs (b ∷ c ∷ xs)) none)))
    (cases_Bool (is_sign_in_parentheses a b c))

-- The tokens of cells up to a blank, and those after it.
pub tokens_of_cells-blank : (rules : LineRules) (xs ys : List Cell)
    → tokens_of_cells rules (xs ++ Blank ∷ ys) ≡ tokens_of_cells rules (xs ++ Blank ∷ []) ++ tokens_of_cells rules ys
tokens_of_cells-blank rules xs ys =
    let front = first_tokens (streaks_joined rules xs) in
    let rest = first_tokens (streaks_joined rules ys) in
    let alone : first_tokens (streaks_joined rules (xs ++ Blank ∷ [])) ≡ front =
    ap first_tokens (streaks_joined-gap rules xs []) ∙ first_tokens-gap (streaks_joined rules xs) (streaks_joined rules [])
    ∙ ap (λ l. front ++ first_tokens l) (no_streaks rules) ∙ append-nil front in
    ap single_signs (ap first_tokens (streaks_joined-gap rules xs ys) ∙ first_tokens-gap (streaks_joined rules xs) (streaks_joined rules ys))
    ∙ single_signs-append front rest (begins_after_blank (groups both_words (streaks_joined rules ys)))
    ∙ ap (λ l. single_signs l ++ single_signs rest) (sym alone)

-- The tokens of a text up to a line end, and those after it.
pub text_tokens-line : (rules : LineRules) (front : List SourceChar) (nl : SourceChar) (rest : List SourceChar)
    → nl.char ≡ 0x0A → text_tokens rules (front ++ nl ∷ rest)
    ≡ text_tokens rules (front ++ nl ∷ []) ++ text_tokens rules rest
text_tokens-line rules front nl rest is_end =
    let cells = cells_of-line rules front nl rest is_end in
    ap (tokens_of_cells rules) cells.2
    ∙ tokens_of_cells-blank rules cells.0 (cells_of rules rest)
    ∙ ap (λ l. tokens_of_cells rules l ++ text_tokens rules rest) (sym cells.1)

lines_tokens : (rules : LineRules) (lines : List (List SourceChar)) → AllButLastEnd (λ s. s.char == 0x0A) lines
    → tokens_of_cells rules (flat_map (line_cells rules whole_line) lines)
    ≡ flat_map (line_tokens rules whole_line) lines
lines_tokens rules [] h = ap (λ l. single_signs (first_tokens l)) (no_streaks rules)
lines_tokens rules (line ∷ []) h =
    ap (tokens_of_cells rules) (append-nil (line_cells rules whole_line line))
    ∙ sym (append-nil (line_tokens rules whole_line line))
lines_tokens rules (line ∷ next ∷ lines) h =
    let feed : h.0.1.char ≡ 0x0A = eqb-true h.0.1.char 0x0A h.0.3 in
    let blank = line_ends rules whole_line h.0.0 h.0.1 (ap is_whitespace feed) refl in
    let cells : line_cells rules whole_line line ≡ blank.0 ++ Blank ∷ [] = ap (line_cells rules whole_line) h.0.2 ∙ blank.1 in
    let rest = flat_map (line_cells rules whole_line) (next ∷ lines) in
    ap (λ l. tokens_of_cells rules (l ++ rest)) cells
    ∙ ap (tokens_of_cells rules) (append_assoc blank.0 (Blank ∷ []) rest)
    ∙ tokens_of_cells-blank rules blank.0 rest
    ∙ ap₂ (λ a b. tokens_of_cells rules a ++ b) (sym cells) (lines_tokens rules (next ∷ lines) h.1)

-- The tokens of a text are those of its lines, one line after the other.
pub text_tokens-lines : (rules : LineRules) (text : List SourceChar)
    → text_tokens rules text ≡ flat_map (line_tokens rules whole_line) (lines_of (without_dropped text))
text_tokens-lines rules text = lines_tokens rules (lines_of (without_dropped text)) (cut_after-ends (λ s. s.char == 0x0A) (without_dropped text))
