use Rattle.std.proofs.Common.{ap, ◌∙◌}
use Rattle.lic_kind.specs.LineRules.{rules_of}
use Rattle.lic_markup.specs.FirstFaults.{too_long}
use Rattle.lic_markup.specs.Lines.{with_next}
use Rattle.lic_markup.proofs.TemplateSpelled.{is_found, is_read, Gives-short}
use Rattle.lic_markup.proofs.FaultRead.{is_refused, is_faulty}
use Rattle.lic_markup.proofs.reading.read_template.Goals as goal

pub returns-clause-found : goal.returns-clause-found
returns-clause-found c =
    let rules = rules_of c.args.rules.now in
    is_found rules c.args.words.now c.args.text.now c.read_elements.result
    (Gives-short rules c.args.words.now c.args.text.now c.read_elements.result _ c.if-text-gt-MAX_LENGTH.false
    (c.in_ok-elements.ensures ∙ ap with_next c.in_ok-pieces_and_rules.ensures.exact) c.read_elements.ensures.exact)

pub returns-clause-only : goal.returns-clause-only
returns-clause-only c says is =
    let rules = rules_of c.args.rules.now in
    is_read rules c.args.words.now c.args.text.now c.read_elements.result says is
    (Gives-short rules c.args.words.now c.args.text.now c.read_elements.result _ c.if-text-gt-MAX_LENGTH.false
    (c.in_ok-elements.ensures ∙ ap with_next c.in_ok-pieces_and_rules.ensures.exact) c.read_elements.ensures.exact)

pub returns-clause-refused : goal.returns-clause-refused
returns-clause-refused c =
    let rules = rules_of c.args.rules.now in
    is_refused rules c.args.words.now c.args.text.now c.read_elements.result
    (Gives-short rules c.args.words.now c.args.text.now c.read_elements.result _ c.if-text-gt-MAX_LENGTH.false
    (c.in_ok-elements.ensures ∙ ap with_next c.in_ok-pieces_and_rules.ensures.exact) c.read_elements.ensures.exact)

pub returns-clause-faulty : goal.returns-clause-faulty
returns-clause-faulty c e is =
    let rules = rules_of c.args.rules.now in
    is_faulty rules c.args.words.now c.args.text.now c.read_elements.result e is
    (Gives-short rules c.args.words.now c.args.text.now c.read_elements.result _ c.if-text-gt-MAX_LENGTH.false
    (c.in_ok-elements.ensures ∙ ap with_next c.in_ok-pieces_and_rules.ensures.exact) c.read_elements.ensures.exact)

pub returns-then-text-gt-MAX_LENGTH-clause-refused : goal.returns-then-text-gt-MAX_LENGTH-clause-refused
returns-then-text-gt-MAX_LENGTH-clause-refused c lasting = too_long c.if-text-gt-MAX_LENGTH.true
