-- Lines of which nothing but white space is taken, as two characters at each of their edges show.
use Rattle.std.proofs.Common.{◌≡◌, ℕ, zero, suc, ◌+◌, ◌-◌, ◌<◌, ◌≤◌, Bool, true, false, not, ◌&&◌, ◌||◌, ◌==◌, List, [], ◌∷◌, ◌++◌, inl, inr, length, take, drop, get_or, reverse, refl, sym, ap, ap₂, subst, ◌∙◌, append_assoc, append-nil, ⊎_elim, arith, length-append}
use Rattle.std.specs.Prelude.{nat_le, slice_index}
use Rattle.std.specs.List.{list_all, position_or_len, AllByRecursion}
use Rattle.std.specs.Int.{is_in_range}
use Rattle.std.specs.Char.{is_whitespace, is_ascii, is_ascii_digit, is_ascii_alphabetic, is_ascii_alphanumeric}
use Rattle.std.proofs.Math.ListN.{get_or-append}
use Rattle.std.proofs.Math.Seq.{get_or-append_seam, drop-append_seam}
use Rattle.std.proofs.lemmas.Bool.{false≢true, and_parts, or_cases, or_left, or_right, leb-true, lt-ltb, cases_Bool, cases_lt}
use Rattle.std.proofs.lemmas.List.{reverse-append, length-reverse, get_or-append-add, get_or-append_right, take_more, take_all}
use Rattle.lic_kind.specs.Kinds.{kind_of, is_dash, is_bullet, is_mark_kind}
use Rattle.lic_kind.specs.declared.Kind.TheVariants as kind
use Rattle.lic_kind.proofs.KindLemmas.{kind_of-alphanumeric, kind_of-dash, kind_of-bullet}
use Rattle.lic_kind.specs.LineRules.{LineRules}
use Rattle.lic_trim.specs.Texts.{is_sequence, longest_front}
use Rattle.lic_trim.specs.Lines.{is_bullet_sign, is_roman_digit, is_letter, is_roman, is_item_form, lets_item, item_length, item_after_lead, lead_length, tail_length, cut_of, whole_line, LineCut}
use Rattle.lic_trim.specs.Walks.{Side, Front, End, is_walked_piece, may_begin_with_any}
use Rattle.lic_trim.specs.PlainEdges.{AreApart, HasEdges, KeepsAll}
use Rattle.lic_trim.specs.Spaces.{TakesSpaces}
use Rattle.lic_trim.proofs.SpaceSequences.{longest_standing, or_off}
use Rattle.lic_trim.proofs.ItemFronts.{no_item_front}
use Rattle.lic_trim.proofs.CutLemmas.{tail_on}
use Rattle.lic_trim.proofs.ItemLemmas.{item_off}
use Rattle.lic_trim.proofs.NoItems.{no_numbers, and_off, off_and, no_bullet, number, letter, closed, not_equal}

or_none : (a b : Bool) → (a || b) ≡ false → (a ≡ false) × (b ≡ false)
or_none false b h = (refl, h)
or_none true b h = absurd (false≢true (sym h))

both_off : (x y z : Bool) → (x && y) ≡ false → (x && (y && z)) ≡ false
both_off false y z h = refl
both_off true y z h = ap (λ b. b && z) h

pub not_on : (b : Bool) → not b ≡ true → b ≡ false
not_on false h = refl
not_on true h = absurd (false≢true h)

-- ---- the row at a side

white_at : (white : List ℕ) → AllByRecursion (λ w. is_whitespace w ≡ true) white → (i : ℕ) → i < length white → is_whitespace (get_or white i 0) ≡ true
white_at [] each i lt = absurd (omega arith)
white_at (w ∷ white) each zero lt = each.0
white_at (w ∷ white) each (suc i) lt = white_at white each.1 i (omega arith)

row_two : (rules : LineRules) (side : Side) (white : List ℕ) (c d : ℕ) (past : List ℕ) → AllByRecursion (λ w. is_whitespace w ≡ true) white
    → is_whitespace c ≡ false → AreApart c d → may_begin_with_any rules side (c ∷ d ∷ past) ≡ false
    → length white ≡ longest_front (is_sequence (is_walked_piece rules side)) (white ++ c ∷ d ∷ past)
row_two rules side white c d past each dark other none =
    let n = length white in
    let rest = c ∷ d ∷ past in
    let way = white ++ rest in
    let here : slice_index way n ≡ c = get_or-append_seam white c (d ∷ past) 0 in
    let next : slice_index way (n + 1) ≡ d = get_or-append-add white rest 1 0 in
    longest_standing rules side way n (omega (arith, length-append white rest))
    (λ i lt. ap is_whitespace (get_or-append white rest 0 i lt) ∙ white_at white each i lt)
    (ap is_whitespace here ∙ dark)
    (ap (may_begin_with_any rules side) (drop-append_seam white rest) ∙ none)
    (elim other [
      | inl differ ↦ inl (λ lt same. absurd (differ (sym here ∙ sym same ∙ next)))
      | inr no_mark ↦ inr (ap (λ k. is_mark_kind (kind_of k)) here ∙ no_mark)
    ])

-- ---- items

not_in : (low high c : ℕ) → high < c → is_in_range low high c ≡ false
not_in low high c lt = elim (cases_Bool (is_in_range low high c)) [
  | inl inside ↦ let le : c ≤ high = leb-true c high (and_parts (nat_le low c) (nat_le c high) inside).1 in absurd (omega arith)
  | inr none ↦ none
]

module _ (c d : ℕ) (high : 64 < c) (dash : is_dash c ≡ false) (bullet : is_bullet c ≡ false)
    (dot : (d == 0x2E) ≡ false) (parenthesis : (d == 0x29) ≡ false) (roman : (is_roman_digit c && is_roman_digit d) ≡ false) where
  no_digit : is_ascii_digit c ≡ false
  no_digit = not_in 48 57 c (omega arith)

  no_parenthesis : (c == 0x28) ≡ false
  no_parenthesis = not_equal c 0x28 (omega arith)

  no_sign : is_bullet_sign c ≡ false
  no_sign = or_off _ _ (or_off _ _ dash bullet) (not_equal c 0x2B (omega arith))

  no_end : ((c == 0x2E) || (c == 0x29)) ≡ false
  no_end = or_off _ _ (not_equal c 0x2E (omega arith)) (not_equal c 0x29 (omega arith))

  alone : (c == 0x3A) ≡ false → is_item_form (c ∷ []) ≡ false
  alone colon =
      or_off _ _
      (or_off _ _ (or_off _ _ (off_and _ _ no_sign) (off_and _ _ (or_off _ _ no_end colon))) (off_and _ _ no_end))
      (off_and _ _ no_parenthesis)

  form_of : (fs : List ℕ) (last : ℕ) → (((last == 0x2E) || (last == 0x29)) && (is_letter (c ∷ fs) || is_roman (c ∷ fs))) ≡ false
      → is_item_form ((c ∷ fs) ++ last ∷ []) ≡ false
  form_of fs last none =
      or_off _ _
      (or_off _ _ (or_off _ _ (no_bullet c fs last) (number c fs last ∙ and_off _ _ (no_numbers c fs no_digit)))
      (letter c fs last ∙ none))
      (closed c fs last ∙ off_and _ _ no_parenthesis)

  no_romans : (fs : List ℕ) → is_roman (c ∷ d ∷ fs) ≡ false
  no_romans fs = and_off (is_in_range 1 5 (length (c ∷ d ∷ fs))) _ (both_off (is_roman_digit c) (is_roman_digit d) (list_all is_roman_digit fs) roman)

  no_letters : (fs : List ℕ) → is_letter (c ∷ d ∷ fs) ≡ false
  no_letters fs = off_and _ _ (not_equal (length (c ∷ d ∷ fs)) 1 (omega arith))

  no_form : (text : List ℕ) → is_item_form (c ∷ d ∷ text) ≡ false
  no_form [] = form_of [] d (off_and _ _ (or_off _ _ dot parenthesis))
  no_form (e ∷ text) =
      let more = e ∷ text in
      let n = length text in
      let next : n + 1 ≡ length more = omega arith in
      let split : more ≡ take n more ++ get_or more n 0 ∷ [] =
      sym (ap (λ m. take m more) next ∙ take_all (length more) more (omega arith)) ∙ take_more more n 0 (omega arith) in
      ap (λ l. is_item_form (c ∷ d ∷ l)) split
      ∙ form_of (d ∷ take n more) (get_or more n 0)
      (and_off _ _ (or_off _ _ (no_letters (take n more)) (no_romans (take n more))))

  no_front : (c == 0x3A) ≡ false → (n : ℕ) (text : List ℕ) → is_item_form (take n (c ∷ d ∷ text)) ≡ false
  no_front colon zero text = refl
  no_front colon (suc zero) text = alone colon
  no_front colon (suc (suc n)) text = no_form (take n text)

  pub no_item_two : (c == 0x3A) ≡ false → (rules : LineRules) (text : List ℕ) → item_length rules (c ∷ d ∷ text) ≡ 0
  no_item_two colon rules text =
      let word = c ∷ d ∷ text in
      let n = position_or_len is_whitespace word in
      let form = take n word in
      let lets = lets_item form (drop (length form) word) in
      sym (item_off rules.items (is_item_form form) lets (length form) (off_and (is_item_form form) lets (no_front colon n text)))

-- an ASCII letter, and what does not make an item of it
pub no_item_letter : (c d : ℕ) → is_ascii_alphabetic c ≡ true → (((d == 0x2E) || (d == 0x29)) || (is_roman_digit c && is_roman_digit d)) ≡ false
    → (rules : LineRules) (text : List ℕ) → item_length rules (c ∷ d ∷ text) ≡ 0
no_item_letter c d alphabetic none =
    let parts = or_none ((d == 0x2E) || (d == 0x29)) (is_roman_digit c && is_roman_digit d) none in
    let ends = or_none (d == 0x2E) (d == 0x29) parts.0 in
    let bounds : (64 < c) × (c < 128) × ((c == 0x3A) ≡ false) = ⊎_elim
    (λ capital.
    let low : 65 ≤ c = leb-true 65 c (and_parts (nat_le 65 c) (nat_le c 90) capital).0 in
    let high : c ≤ 90 = leb-true c 90 (and_parts (nat_le 65 c) (nat_le c 90) capital).1 in
    (omega arith, omega arith, not_equal c 0x3A (omega arith)))
    (λ small.
    let low : 97 ≤ c = leb-true 97 c (and_parts (nat_le 97 c) (nat_le c 122) small).0 in
    let high : c ≤ 122 = leb-true c 122 (and_parts (nat_le 97 c) (nat_le c 122) small).1 in
    (omega arith, omega arith, not_equal c 0x3A (omega arith)))
    (or_cases (is_in_range 65 90 c) (is_in_range 97 122 c) alphabetic) in
    let digit = is_in_range 48 57 c in
    let upper = is_in_range 65 90 c in
    let lower = is_in_range 97 122 c in
    let alphanumeric : is_ascii_alphanumeric c ≡ true = ⊎_elim
    (λ capital. or_left (digit || upper) lower (or_right digit upper capital))
    (λ small. or_right (digit || upper) lower small)
    (or_cases upper lower alphabetic) in
    let word : kind_of c ≡ kind.Word = kind_of-alphanumeric c bounds.1 alphanumeric in
    let dash : is_dash c ≡ false = other (is_dash c) (λ yes. let e : kind.Word ≡ kind.Mark = sym word ∙ kind_of-dash c yes in cc) in
    let bullet : is_bullet c ≡ false = other (is_bullet c) (λ yes. let e : kind.Word ≡ kind.Mark = sym word ∙ kind_of-bullet c yes in cc) in
    no_item_two c d bounds.0 dash bullet ends.0 ends.1 parts.1 bounds.2
  where
    other : (b : Bool) → (b ≡ true → ⊥) → b ≡ false
    other false h = refl
    other true h = absurd (h refl)

-- a character beyond ASCII that is no dash and no bullet
pub no_item_other : (c : ℕ) → (is_ascii c || is_dash c || is_bullet c) ≡ false → (rules : LineRules) (text : List ℕ) → item_length rules (c ∷ text) ≡ 0
no_item_other c none =
    let parts = or_none (is_ascii c || is_dash c) (is_bullet c) none in
    let first = or_none (is_ascii c) (is_dash c) parts.0 in
    let wide : 128 ≤ c = ⊎_elim (λ lt. absurd (false≢true (sym first.0 ∙ lt-ltb c 128 lt))) (λ le. le) (cases_lt c 128) in
    no_item_front c wide first.1 parts.1

-- ---- the whole line

all_append : (xs ys : List ℕ) → AllByRecursion (λ w. is_whitespace w ≡ true) xs → AllByRecursion (λ w. is_whitespace w ≡ true) ys
    → AllByRecursion (λ w. is_whitespace w ≡ true) (xs ++ ys)
all_append [] ys h k = k
all_append (x ∷ xs) ys h k = (h.0, all_append xs ys h.1 k)

all_reverse : (xs : List ℕ) → AllByRecursion (λ w. is_whitespace w ≡ true) xs → AllByRecursion (λ w. is_whitespace w ≡ true) (reverse xs)
all_reverse [] h = tt
all_reverse (x ∷ xs) h =
    subst (AllByRecursion (λ w. is_whitespace w ≡ true)) (sym (reverse-append (x ∷ []) xs)) (all_append (reverse xs) (x ∷ []) (all_reverse xs h.1) (h.0, tt))

module _ (rules : LineRules) (first second before last : ℕ) (line : List ℕ) (edges : HasEdges line first second before last) where
  abbrev text : List ℕ
  text = first ∷ second ∷ edges.past

  abbrev rest : List ℕ
  rest = text ++ edges.tail

  abbrev n : ℕ
  n = length edges.lead

  abbrev m : ℕ
  m = length (reverse edges.tail)

  left : drop n line ≡ rest
  left = ap (drop n) edges.all ∙ drop-append_seam edges.lead rest

  way : reverse (drop n line) ≡ reverse edges.tail ++ last ∷ before ∷ reverse edges.ahead
  way =
      ap reverse left ∙ reverse-append text edges.tail
      ∙ ap (λ l. reverse edges.tail ++ l) (ap reverse edges.end ∙ reverse-append edges.ahead (before ∷ last ∷ []))

  long : length line ≡ n + (length text + length edges.tail)
  long =
      ap length edges.all ∙ length-append edges.lead rest ∙ ap (λ k. n + k) (length-append text edges.tail)

  lead_white : (i : ℕ) → i < n → is_whitespace (get_or line i 0) ≡ true
  lead_white i lt =
      ap (λ l. is_whitespace (get_or l i 0)) edges.all ∙ ap is_whitespace (get_or-append edges.lead rest 0 i lt)
      ∙ white_at edges.lead edges.lead_white i lt

  tail_white : (i : ℕ) → length line - m ≤ i → i < length line → is_whitespace (get_or line i 0) ≡ true
  tail_white i low high =
      let ahead = edges.lead ++ text in
      let parts : line ≡ ahead ++ edges.tail = edges.all ∙ sym (append_assoc edges.lead text edges.tail) in
      let size = length-reverse edges.tail in
      let all = ap length parts ∙ length-append ahead edges.tail in
      ap (λ l. is_whitespace (get_or l i 0)) parts
      ∙ ap is_whitespace (get_or-append_right ahead edges.tail (length ahead) i 0 refl (omega (arith, low, all, size)))
      ∙ white_at edges.tail edges.tail_white (i - length ahead) (omega (arith, low, high, all, size))

  pub cut_takes : cut_of rules whole_line line ≡ record { lead = n; item = 0; tail = m } → TakesSpaces (cut_of rules whole_line line) line
  cut_takes is = subst (λ cut. TakesSpaces cut line) (sym is) (record {
    within = omega (arith, long, length-reverse edges.tail);
    lead = lead_white;
    no_item = refl;
    tail = tail_white;
  })

pub keeps_all : (rules : LineRules) (first second before last : ℕ) → AreApart first second → AreApart last before
    → ((past : List ℕ) → may_begin_with_any rules Front (first ∷ second ∷ past) ≡ false)
    → ((past : List ℕ) → may_begin_with_any rules End (last ∷ before ∷ past) ≡ false)
    → ((past : List ℕ) → item_length rules (first ∷ second ∷ past) ≡ 0)
    → KeepsAll rules first second before last
keeps_all rules first second before last other other' no_front no_end no_item line edges =
    let n = length edges.lead in
    let past = edges.past ++ edges.tail in
    let rest = first ∷ second ∷ past in
    let white = reverse edges.tail in
    let lead : n ≡ lead_length rules whole_line line =
    row_two rules Front edges.lead first second past edges.lead_white edges.first_dark other (no_front past)
    ∙ ap (longest_front (is_sequence (is_walked_piece rules Front))) (sym edges.all) in
    let left' : drop n line ≡ rest = left rules first second before last line edges in
    let item : 0 ≡ item_after_lead rules whole_line (drop n line) =
    sym (ap (λ l. item_length rules (l ++ [])) left' ∙ ap (item_length rules) (append-nil rest) ∙ no_item past) in
    let tail : length white ≡ tail_length rules whole_line (drop n line) =
    row_two rules End white last before (reverse edges.ahead) (all_reverse edges.tail edges.tail_white) edges.last_dark other' (no_end (reverse edges.ahead))
    ∙ ap (longest_front (is_sequence (is_walked_piece rules End))) (sym (way rules first second before last line edges))
    ∙ tail_on rules whole_line (drop n line) (drop n line) refl refl in
    let item' : 0 ≡ item_after_lead rules whole_line (drop (lead_length rules whole_line line) line) =
    item ∙ ap (λ k. item_after_lead rules whole_line (drop k line)) lead in
    let tail' = tail ∙ ap₂ (λ k l. tail_length rules whole_line (drop k (drop l line))) item' lead in
    let is : (let cut : LineCut = record { lead = n; item = 0; tail = length white } in cut) ≡ cut_of rules whole_line line =
    λ j. record { lead = lead j; item = item' j; tail = tail' j } in
    cut_takes rules first second before last line edges (sym is)
