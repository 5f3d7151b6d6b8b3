use Rattle.lic_kind.specs.LineRules.{rules_of}
use Rattle.lic_engine.proofs.RunLemmas.{whole_tokens, part_tokens}
use Rattle.lic_engine.proofs.engine.run_tokens.Goals as goal

pub returns-clause-report : goal.returns-clause-report
returns-clause-report g c =
    let whole = c.in_ok-text.ensures.whole in
    whole_tokens (rules_of c.args.rules.now) c.args.name.now c.args.words.now c.report_tokens-some.result c.in_ok-text.text.source c.in_ok-text.text.tokens whole.0 _ _ _ _
    (record { accepted = whole.1; bytes_same = whole.2; same = whole.3 }) c.report_tokens-some.ensures.written

pub returns-clause-part : goal.returns-clause-part
returns-clause-part g c = λ fault is which.
    let whole = c.in_ok-text.ensures.whole in
    part_tokens (rules_of c.args.rules.now) c.args.name.now c.args.words.now c.report_tokens-some.result fault c.in_ok-text.text.source c.in_ok-text.text.tokens whole.0 _ _ _ _
    (record { accepted = whole.1; bytes_same = whole.2; same = whole.3 }) c.report_tokens-some.ensures.part is
