use Rattle.std.proofs.Common.{◌≡◌, ◌≢◌, ℕ, Result, Ok, Err, IsErr, ap, refl}
use Rattle.lic_command.specs.Outcomes.{CountsStops}
use Rattle.lic_command.specs.declared.faults.Stop.{Stop}
use Rattle.lic_command.proofs.CommandLemmas.{ended}
use Rattle.lic_command.proofs.program.command_with.Goals as goal

pub returns-clause-done : goal.returns-clause-done
returns-clause-done g c =
    ended _ _ _ _ _ _ _ _ _ _ _ c.args.progress c.status_at_end.result c.try_command-outcome.result c.try_command-outcome.ensures.done c.status_at_end.ensures.done
    (λ s is. let silent = c.status_at_end.ensures.silent s is in (ap g.E.Sink.taken silent, ap g.E.Sink.failed silent))
    c.status_at_end.ensures.stopped
    (λ error. let reported = c.status_at_end.ensures.reported error in (g.E.Sink.taken c.try_command-outcome.new.err, g.E.Sink.failed c.try_command-outcome.new.err, reported.0, reported.1))

pub returns-clause-few : goal.returns-clause-few
returns-clause-few g c = c.status_at_end.ensures.few c.try_command-outcome.ensures.few

no_write : (old new status : ℕ) (outcome : Result ℕ Stop) → CountsStops outcome old new → (IsErr outcome → status ≡ 2) → status ≢ 2 → new ≡ old
no_write old new status (Ok s) counts two other = counts
no_write old new status (Err stop) counts two other = absurd (other (two refl))

pub returns-clause-sound : goal.returns-clause-sound
returns-clause-sound g c = no_write _ _ _ c.try_command-outcome.result c.try_command-outcome.ensures.writes c.status_at_end.ensures.stopped
