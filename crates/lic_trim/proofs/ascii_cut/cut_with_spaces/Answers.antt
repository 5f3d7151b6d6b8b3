use Rattle.std.proofs.Common.{◌≡◌, ◌∙◌, ◌+◌, ◌-◌, refl, sym, ap, ap₂, take, drop, length, append-nil}
use Rattle.std.proofs.lemmas.List.{take_rest, drop-drop}
use Rattle.lic_kind.specs.LineRules.{rules_of}
use Rattle.lic_trim.specs.Lines.{whole_line, lead_length, item_after_lead, tail_length, item_length}
use Rattle.lic_trim.proofs.CutLemmas.{lead_on, tail_on}
use Rattle.lic_trim.proofs.SpaceCuts.{white_end}
use Rattle.lic_trim.proofs.ascii_cut.cut_with_spaces.Goals as goal

pub returns-clause-cut : goal.returns-clause-cut
returns-clause-cut c =
    let rules = rules_of c.args.rules.now in
    let line = c.args.line.now in
    let n = c.in_ok-lead.lead.length in
    let k = c.in_ok-item.item in
    let lead : n ≡ lead_length rules whole_line line = c.in_ok-lead.ensures.sequence ∙ lead_on rules whole_line line refl in
    let rest : take (length line - n) (drop n line) ≡ drop n line = take_rest line n in
    let item : k ≡ item_after_lead rules whole_line (drop n line) =
    c.in_ok-item.ensures.item ∙ ap (item_length rules) (rest ∙ sym (append-nil (drop n line))) in
    let item' : k ≡ item_after_lead rules whole_line (drop (lead_length rules whole_line line) line) =
    item ∙ ap (λ m. item_after_lead rules whole_line (drop m line)) lead in
    let left = take_rest (take (length line - n) (drop n line)) k ∙ ap (drop k) rest in
    let tail : c.in_ok-tail.tail.length ≡ tail_length rules whole_line (drop k (drop n line)) =
    c.in_ok-tail.ensures.sequence ∙ tail_on rules whole_line (drop k (drop n line)) _ left refl in
    let tail' : c.in_ok-tail.tail.length
    ≡ tail_length rules whole_line
    (drop (item_after_lead rules whole_line (drop (lead_length rules whole_line line) line))
    (drop (lead_length rules whole_line line) line)) =
    tail ∙ ap₂ (λ k m. tail_length rules whole_line (drop k (drop m line))) item' lead in
    λ i. record { lead = lead i; item = item' i; tail = tail' i }

pub returns-clause-spaces : goal.returns-clause-spaces
returns-clause-spaces c =
    let line = c.args.line.now in
    let n = c.in_ok-lead.lead.length in
    let k = c.in_ok-item.item in
    let rest = take (length line - n) (drop n line) in
    let left = take (length rest - k) (drop k rest) in
    let is_left : left ≡ drop (n + k) line = take_rest rest k ∙ ap (drop k) (take_rest line n) ∙ drop-drop k n line in
    record {
      in_lead = c.in_ok-lead.ensures.order;
      lead = c.in_ok-lead.ensures.spaces.all;
      in_tail = c.in_ok-tail.ensures.order;
      tail = white_end line left (n + k) c.in_ok-tail.tail.spaces is_left c.in_ok-tail.ensures.spaces;
    }
