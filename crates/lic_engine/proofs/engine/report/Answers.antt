use Rattle.std.proofs.Common.{true, false}
use Rattle.lic_engine.proofs.ReportLemmas.{report_of_kind, part_of_kind}
use Rattle.lic_engine.proofs.engine.report.Goals as goal

pub returns-then-ask-clause-written : goal.returns-then-ask-clause-written
returns-then-ask-clause-written g c =
    report_of_kind c.args.name.now c.args.set.now c.args.ask.now c.args.text.now.source c.args.text.now.tokens c.report_all.result true _ _ c.if-ask.true c.report_all.ensures.written

pub returns-then-ask-clause-part : goal.returns-then-ask-clause-part
returns-then-ask-clause-part g c =
    part_of_kind c.args.name.now c.args.set.now c.args.ask.now c.args.text.now.source c.args.text.now.tokens c.report_all.result true _ _ c.if-ask.true c.report_all.ensures.part

pub returns-else-ask-clause-written : goal.returns-else-ask-clause-written
returns-else-ask-clause-written g c =
    report_of_kind c.args.name.now c.args.set.now c.args.ask.now c.args.text.now.source c.args.text.now.tokens c.report_outer.result false _ _ c.if-ask.false c.report_outer.ensures.written

pub returns-else-ask-clause-part : goal.returns-else-ask-clause-part
returns-else-ask-clause-part g c =
    part_of_kind c.args.name.now c.args.set.now c.args.ask.now c.args.text.now.source c.args.text.now.tokens c.report_outer.result false _ _ c.if-ask.false c.report_outer.ensures.part
