-- Lines of which white space alone is taken.
use Rattle.std.proofs.Common.{◌≡◌, ◌∙◌, ℕ, ◌+◌, ◌-◌, ◌<◌, ◌≤◌, true, List, refl, sym, ap, ap₂, subst, drop, length, get_or, reverse, append-nil, arith}
use Rattle.std.specs.Prelude.{slice_index}
use Rattle.std.specs.Char.{is_whitespace}
use Rattle.std.proofs.lemmas.List.{length-drop, length-reverse, get_or-drop, get_or-reverse}
use Rattle.lic_kind.specs.LineRules.{LineRules}
use Rattle.lic_trim.specs.declared.cut.LineCut.{LineCut}
use Rattle.lic_trim.specs.Lines.{whole_line, item_length, lead_length, item_after_lead, tail_length, cut_of}
use Rattle.lic_trim.specs.Spaces.{AreSpaces, TakesSpaces}
use Rattle.lic_trim.specs.Texts.{is_sequence, longest_front}
use Rattle.lic_trim.specs.Walks.{is_walked_piece, walked, Front, End}
use Rattle.lic_trim.proofs.CutLemmas.{lead_on, tail_on}

module _ (rules : LineRules) (line rest : List ℕ) (n m : ℕ) (is_rest : rest ≡ drop n line)
    (lead : n ≡ longest_front (is_sequence (is_walked_piece rules Front)) (walked Front line)) (front : n ≤ length line)
    (item : item_length rules rest ≡ 0)
    (tail : m ≡ longest_front (is_sequence (is_walked_piece rules End)) (walked End rest)) (end : m ≤ length rest) where
  abbrev cut : LineCut
  cut = record { lead = n; item = 0; tail = m }

  lead' : n ≡ lead_length rules whole_line line
  lead' = lead ∙ lead_on rules whole_line line refl

  item' : 0 ≡ item_after_lead rules whole_line (drop (lead_length rules whole_line line) line)
  item' =
      sym item ∙ ap (item_length rules) (is_rest ∙ sym (append-nil (drop n line)))
      ∙ ap (λ k. item_after_lead rules whole_line (drop k line)) lead'

  tail' : m ≡ tail_length rules whole_line
      (drop (item_after_lead rules whole_line (drop (lead_length rules whole_line line) line)) (drop (lead_length rules whole_line line) line))
  tail' =
      tail ∙ tail_on rules whole_line (drop 0 (drop n line)) rest is_rest refl
      ∙ ap₂ (λ k l. tail_length rules whole_line (drop k (drop l line))) item' lead'

  is_cut : cut ≡ cut_of rules whole_line line
  is_cut = λ i. record { lead = lead' i; item = item' i; tail = tail' i }

  size : length rest ≡ length line - n
  size = ap length is_rest ∙ length-drop n line

  -- seen from the end of the line
  past : (i : ℕ) → length line - m ≤ i → i < length line → get_or (reverse rest) (length line - 1 - i) 0 ≡ slice_index line i
  past i low high =
      let k = length line - 1 - i in
      let index : length rest - 1 - k ≡ i - n = omega (arith, size) in
      let whole : n + (i - n) ≡ i = omega (arith, size, end) in
      get_or-reverse rest k 0 (omega (arith, size, end)) ∙ ap (λ j. get_or rest j 0) index ∙ ap (λ l. get_or l (i - n) 0) is_rest
      ∙ get_or-drop n line (i - n) 0 ∙ ap (slice_index line) whole

  pub takes_spaces : ((i : ℕ) → i < n → is_whitespace (slice_index (walked Front line) i) ≡ true)
      → ((i : ℕ) → i < m → is_whitespace (slice_index (walked End rest) i) ≡ true) → TakesSpaces (cut_of rules whole_line line) line
  takes_spaces white white' = subst (λ c. TakesSpaces c line) is_cut (record {
    within = omega (arith, size, front, end);
    lead = white;
    no_item = refl;
    tail = λ i low high. ap is_whitespace (sym (past i low high)) ∙ white' (length line - 1 - i) (omega (arith, size, end));
  })

-- white space at the end of what is left after the first n characters is at the end of the line
pub white_end : (line left : List ℕ) (n count : ℕ) → left ≡ drop n line → AreSpaces (walked End left) count
    → (i : ℕ) → length line - count ≤ i → i < length line → is_whitespace (slice_index line i) ≡ true
white_end line left n count is_left spaces i low high =
    let size : length left ≡ length line - n = ap length is_left ∙ length-drop n line in
    let many : length (walked End left) ≡ length left = length-reverse left in
    let k = length line - 1 - i in
    let fits : k < length left = omega (arith, many, spaces.within) in
    let index : length left - 1 - k ≡ i - n = omega (arith, size) in
    let whole : n + (i - n) ≡ i = omega (arith, size) in
    let past : get_or (reverse left) k 0 ≡ slice_index line i =
    get_or-reverse left k 0 fits ∙ ap (λ j. get_or left j 0) index ∙ ap (λ l. get_or l (i - n) 0) is_left
    ∙ get_or-drop n line (i - n) 0 ∙ ap (slice_index line) whole in
    ap is_whitespace (sym past) ∙ spaces.all k (omega arith)
