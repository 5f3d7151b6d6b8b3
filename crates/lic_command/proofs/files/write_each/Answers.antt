use Rattle.std.proofs.Common.{rules, ◌≡◌, ℕ, List, Option, [], ◌<◌, ◌+◌, length, refl, subst, sym, ap, ◌∙◌}
use Rattle.lic_command.specs.Lines.{AreWritten, Input, input_of}
use Rattle.lic_command.specs.Lines.AreWritten.{no_file}
use Rattle.lic_command.specs.Reporting.{AreReported}
use Rattle.lic_command.specs.Reporting.AreReported.{nothing}
use Rattle.lic_command.specs.declared.files.Work.{Work}
use Rattle.lic_command.specs.declared.files.Written.{Written}
use Rattle.lic_command.proofs.CommandLemmas.{files_stop, memory_counts, refusal_counts}
use Rattle.lic_command.proofs.LineLemmas.{begun, counts_more, reported_more, written_more}
use Rattle.lic_command.proofs.files.write_each.Goals as goal

pub loop-done-init : goal.loop-done-init
loop-done-init g c = ([], no_file, (λ hidden. nothing), refl)

pub loop-done-preserved : goal.loop-done-preserved
loop-done-preserved g c =
    let within : c.loop-done.done < length c.args.files.names.now = search rules in
    let before = c.loop-done.invariant in (
      _,
      written_more _ c.args.work c.args.files.names.now c.loop-done.done _ within before.1 c.in_ok-answer.ensures.read c.in_ok-answer.ensures.written c.with_one_more-written.ensures,
      (λ hidden. reported_more before.0 _ _
          (subst (λ err. AreReported (g.E.Sink.taken c.args.err.now) (g.E.Sink.failed c.args.err.now) before.0 (g.E.Sink.taken err) (g.E.Sink.failed err))
          (sym (c.show.ensures.hidden hidden)) (before.2 hidden))
          (c.in_ok-report_refusal.ensures.reported hidden)),
      counts_more _ c.in_ok-answer.ensures.writes before.3 c.in_ok-report_refusal.ensures.ok,
    )

-- nothing was read or written after them
same_written : {work : Work} {in_old in_mid in_new : Input} {old mid new : Option (List ℕ)} {names refused : List (List ℕ)} {written : Written}
    → in_new ≡ in_mid → new ≡ mid → AreWritten work in_old old names refused in_mid mid written
    → AreWritten work in_old old names refused in_new new written
same_written {work} {in_old} {in_mid} {in_new} {old} {mid} {new} {names} {refused} {written} same_in same_out are =
    subst (λ input. AreWritten work in_old old names refused input new written) (sym same_in)
    (subst (λ out. AreWritten work in_old old names refused in_mid out written) (sym same_out) are)

pub returns-in_err-answer-clause-part : goal.returns-in_err-answer-clause-part
returns-in_err-answer-clause-part g c =
    begun c.from_residual.result c.args.work c.args.files.names.now c.loop-done.done
    (same_written (ap (λ input. input_of (g.R.Source.left input) (g.R.Source.failed input)) c.in_err-answer.ensures.stopped.0)
    (ap g.W.Sink.taken c.in_err-answer.ensures.stopped.1) c.loop-done.invariant.1)

pub returns-in_err-report_refusal-clause-part : goal.returns-in_err-report_refusal-clause-part
returns-in_err-report_refusal-clause-part g c =
    let within : c.loop-done.done < length c.args.files.names.now = search rules in
    begun c.from_residual-in_err-report_refusal.result c.args.work c.args.files.names.now (c.loop-done.done + 1)
    (written_more _ c.args.work c.args.files.names.now c.loop-done.done _ within c.loop-done.invariant.1 c.in_ok-answer.ensures.read c.in_ok-answer.ensures.written c.with_one_more-written.ensures)

pub returns-in_err-answer-clause-written : goal.returns-in_err-answer-clause-written
returns-in_err-answer-clause-written g c = files_stop c.from_residual.result _ c.from_residual.ensures.1 _

pub returns-in_err-answer-clause-writes : goal.returns-in_err-answer-clause-writes
returns-in_err-answer-clause-writes g c =
    memory_counts _ _ c.from_residual.result _ c.from_residual.ensures.1 c.in_err-answer.ensures.memory
    (ap g.W.Sink.failed c.in_err-answer.ensures.stopped.1 ∙ c.loop-done.invariant.3)

pub returns-in_err-report_refusal-clause-written : goal.returns-in_err-report_refusal-clause-written
returns-in_err-report_refusal-clause-written g c =
    files_stop c.from_residual-in_err-report_refusal.result _ c.from_residual-in_err-report_refusal.ensures.1 _

pub returns-in_err-report_refusal-clause-writes : goal.returns-in_err-report_refusal-clause-writes
returns-in_err-report_refusal-clause-writes g c =
    refusal_counts _ _ _ c.in_ok-answer.answer c.from_residual-in_err-report_refusal.result _ c.from_residual-in_err-report_refusal.ensures.1
    c.in_err-report_refusal.ensures.stopped c.in_ok-answer.ensures.writes c.loop-done.invariant.3
