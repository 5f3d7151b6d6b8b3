use Rattle.lic_kind.specs.LineRules.{rules_of}
use Rattle.lic_engine.proofs.RunLemmas.{whole_report, part_report}
use Rattle.lic_engine.proofs.engine.run.Goals as goal

pub returns-clause-report : goal.returns-clause-report
returns-clause-report g c =
    let whole = c.in_ok-text.ensures.whole in
    whole_report (rules_of c.args.rules.now) c.args.name.now c.args.set.now c.args.words.now c.args.ask.now c.report-some.result c.in_ok-text.text.source c.in_ok-text.text.tokens whole.0 _ _ _ _
    (record { accepted = whole.1; bytes_same = whole.2; same = whole.3 }) c.report-some.ensures.written

pub returns-clause-part : goal.returns-clause-part
returns-clause-part g c = λ fault is which.
    let whole = c.in_ok-text.ensures.whole in
    part_report (rules_of c.args.rules.now) c.args.name.now c.args.set.now c.args.words.now c.args.ask.now c.report-some.result fault c.in_ok-text.text.source c.in_ok-text.text.tokens whole.0 _ _ _ _
    (record { accepted = whole.1; bytes_same = whole.2; same = whole.3 }) c.report-some.ensures.part is
