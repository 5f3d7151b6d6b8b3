use Rattle.std.proofs.Common.{◌∙◌, refl, sym, true≢false}
use Rattle.lic_command.specs.Commands.HasEnded.{refused}
use Rattle.lic_command.proofs.CommandLemmas.{help_ended}
use Rattle.lic_command.proofs.program.show_usage.Goals as goal

pub returns-then-use_stderr-clause-done : goal.returns-then-use_stderr-clause-done
returns-then-use_stderr-clause-done g c =
    λ args progress input no_call. refused _ no_call (c.use_stderr.ensures.0 c.if-use_stderr.true) _ c.tell.ensures refl refl refl

pub returns-clause-done : goal.returns-clause-done
returns-clause-done g c = help_ended _ _ _ _ _ _ _ _ (λ fault. true≢false (sym (c.use_stderr.ensures.1 fault) ∙ c.if-use_stderr.false)) c.show_help.result c.show_help.ensures
