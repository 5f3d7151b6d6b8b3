-- The parts of a line's cut, where the line has a front or an end, and where it has none.
use Rattle.std.proofs.Common.{◌≡◌, ◌∙◌, ℕ, ◌-◌, ◌++◌, true, false, List, sym, ap, take, drop, length}
use Rattle.std.specs.Prelude.{option_to_list}
use Rattle.std.proofs.lemmas.Bool.{cond-true, cond-false}
use Rattle.std.proofs.lemmas.List.{take_rest, drop-map}
use Rattle.lic_trim.specs.Sources.{SourceChar, chars_of}
use Rattle.lic_trim.specs.Texts.{is_sequence, longest_front, longest_end}
use Rattle.lic_kind.specs.LineRules.{LineRules}
use Rattle.lic_trim.specs.Lines.{LinePart, is_lead_piece, is_tail_piece, item_length, lead_length, item_after_lead, tail_length}
use Rattle.lic_trim.specs.Walks.{is_walked_piece, walked, Front, End}
use Rattle.lic_trim.proofs.TailSequences.{longest_end-reverse}

pub chars_of-rest : (line : List SourceChar) (n : ℕ) → chars_of (take (length line - n) (drop n line)) ≡ drop n (chars_of line)
chars_of-rest line n = ap chars_of (take_rest line n) ∙ sym (drop-map (λ (s : SourceChar). s.char) n line)

module _ (rules : LineRules) (part : LinePart) where
  pub lead_on : (text : List ℕ) → part.has_front ≡ true → longest_front (is_sequence (is_walked_piece rules Front)) (walked Front text) ≡ lead_length rules part text
  lead_on text on = sym (cond-true part.has_front (longest_front (is_sequence (is_lead_piece rules)) text) 0 on)

  pub lead_off : (text : List ℕ) → part.has_front ≡ false → 0 ≡ lead_length rules part text
  lead_off text off = sym (cond-false part.has_front (longest_front (is_sequence (is_lead_piece rules)) text) 0 off)

  pub item_after_on : (rest chars : List ℕ) → chars ≡ rest → part.has_front ≡ true
      → item_length rules (chars ++ option_to_list part.past) ≡ item_after_lead rules part rest
  item_after_on rest chars same on =
      ap (λ l. item_length rules (l ++ option_to_list part.past)) same
      ∙ sym (cond-true part.has_front (item_length rules (rest ++ option_to_list part.past)) 0 on)

  pub item_after_off : (rest : List ℕ) → part.has_front ≡ false → 0 ≡ item_after_lead rules part rest
  item_after_off rest off = sym (cond-false part.has_front (item_length rules (rest ++ option_to_list part.past)) 0 off)

  pub tail_on : (left chars : List ℕ) → chars ≡ left → part.has_end ≡ true
      → longest_front (is_sequence (is_walked_piece rules End)) (walked End chars) ≡ tail_length rules part left
  tail_on left chars same on =
      sym (longest_end-reverse (is_tail_piece rules) chars) ∙ ap (longest_end (is_sequence (is_tail_piece rules))) same
      ∙ sym (cond-true part.has_end (longest_end (is_sequence (is_tail_piece rules)) left) 0 on)

  pub tail_off : (left : List ℕ) → part.has_end ≡ false → 0 ≡ tail_length rules part left
  tail_off left off = sym (cond-false part.has_end (longest_end (is_sequence (is_tail_piece rules)) left) 0 off)
