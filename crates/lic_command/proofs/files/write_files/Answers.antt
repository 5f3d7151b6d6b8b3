use Rattle.std.proofs.Common.{subst, sym}
use Rattle.std.proofs.lemmas.Result.{IfOk-weaker}
use Rattle.lic_command.specs.Reporting.{AreReported}
use Rattle.lic_command.proofs.files.write_files.Goals as goal

pub returns-clause-written : goal.returns-clause-written
returns-clause-written g c =
    IfOk-weaker c.write_each-written.result _ _ (λ written has. (
      has.0,
      has.1,
      λ hidden. subst (λ err. AreReported (g.E.Sink.taken c.args.err.now) (g.E.Sink.failed c.args.err.now) has.0 (g.E.Sink.taken err) (g.E.Sink.failed err))
          (sym (c.clear.ensures.hidden hidden)) (has.2 hidden),
    )) c.write_each-written.ensures.written

pub returns-clause-part : goal.returns-clause-part
returns-clause-part g c = c.write_each-written.ensures.part

pub returns-clause-writes : goal.returns-clause-writes
returns-clause-writes g c = c.write_each-written.ensures.writes
