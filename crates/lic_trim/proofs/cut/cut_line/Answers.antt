use Rattle.std.proofs.Common.{◌≡◌, ◌∙◌, ◌-◌, ap, ap₂, take, drop, length}
use Rattle.lic_trim.specs.Sources.{chars_of}
use Rattle.lic_kind.specs.LineRules.{rules_of}
use Rattle.lic_trim.specs.Lines.{lead_length, item_after_lead, tail_length}
use Rattle.lic_trim.proofs.CutLemmas.{chars_of-rest, lead_on, lead_off, item_after_on, item_after_off, tail_on, tail_off}
use Rattle.lic_trim.proofs.cut.cut_line.Goals as goal
use Rattle.lic_trim.proofs.cut.cut_line.Goals.{then-part+in_ok-lead, else-part, then-part-2, else-part-2}

pub returns-in_ok-tail-clause-cut : goal.returns-in_ok-tail-clause-cut
returns-in_ok-tail-clause-cut c =
    let rules = rules_of c.args.rules.now in
    let part = c.args.part in
    let line = c.args.line.now in
    let text = chars_of line in
    let lead : c.if-part.lead ≡ lead_length rules part text = elim c.if-part.branch [
      | then-part+in_ok-lead w ↦ w.lead-is ∙ w.in_ok-lead.ensures.sequence ∙ lead_on rules part text w.if-part.true
      | else-part w ↦ w.lead-is ∙ lead_off rules part text w.if-part.false
    ] in
    let rest : chars_of (take (length line - c.if-part.lead) (drop c.if-part.lead line)) ≡ drop c.if-part.lead text = chars_of-rest line c.if-part.lead in
    let item : c.if-part-2.item ≡ item_after_lead rules part (drop c.if-part.lead text) = elim c.if-part-2.branch [
      | then-part-2 w ↦ w.item-is ∙ w.item_length-item.ensures.item ∙ item_after_on rules part (drop c.if-part.lead text) _ rest w.if-part-2.true
      | else-part-2 w ↦ w.item-is ∙ item_after_off rules part (drop c.if-part.lead text) w.if-part-2.false
    ] in
    let left = chars_of-rest (take (length line - c.if-part.lead) (drop c.if-part.lead line)) c.if-part-2.item ∙ ap (drop c.if-part-2.item) rest in
    let tail : c.in_ok-tail.tail ≡ tail_length rules part (drop c.if-part-2.item (drop c.if-part.lead text)) =
    c.in_ok-tail.ensures.sequence ∙ tail_on rules part (drop c.if-part-2.item (drop c.if-part.lead text)) _ left c.if-part-3.true in
    let item' : c.if-part-2.item ≡ item_after_lead rules part (drop (lead_length rules part text) text) =
    item ∙ ap (λ n. item_after_lead rules part (drop n text)) lead in
    let tail' = tail ∙ ap₂ (λ m n. tail_length rules part (drop m (drop n text))) item' lead in
    λ i. record { lead = lead i; item = item' i; tail = tail' i }

pub returns-else-part-3-clause-cut : goal.returns-else-part-3-clause-cut
returns-else-part-3-clause-cut c =
    let rules = rules_of c.args.rules.now in
    let part = c.args.part in
    let line = c.args.line.now in
    let text = chars_of line in
    let lead : c.if-part.lead ≡ lead_length rules part text = elim c.if-part.branch [
      | then-part+in_ok-lead w ↦ w.lead-is ∙ w.in_ok-lead.ensures.sequence ∙ lead_on rules part text w.if-part.true
      | else-part w ↦ w.lead-is ∙ lead_off rules part text w.if-part.false
    ] in
    let rest : chars_of (take (length line - c.if-part.lead) (drop c.if-part.lead line)) ≡ drop c.if-part.lead text = chars_of-rest line c.if-part.lead in
    let item : c.if-part-2.item ≡ item_after_lead rules part (drop c.if-part.lead text) = elim c.if-part-2.branch [
      | then-part-2 w ↦ w.item-is ∙ w.item_length-item.ensures.item ∙ item_after_on rules part (drop c.if-part.lead text) _ rest w.if-part-2.true
      | else-part-2 w ↦ w.item-is ∙ item_after_off rules part (drop c.if-part.lead text) w.if-part-2.false
    ] in
    let item' : c.if-part-2.item ≡ item_after_lead rules part (drop (lead_length rules part text) text) =
    item ∙ ap (λ n. item_after_lead rules part (drop n text)) lead in
    let tail' : 0 ≡ tail_length rules part
    (drop (item_after_lead rules part (drop (lead_length rules part text) text))
    (drop (lead_length rules part text) text)) =
    tail_off rules part (drop (item_after_lead rules part (drop (lead_length rules part text) text))
    (drop (lead_length rules part text) text)) c.if-part-3.false in
    λ i. record { lead = lead i; item = item' i; tail = tail' i }
