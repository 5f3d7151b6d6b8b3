use Rattle.std.proofs.Common.{◌≤◌, length, ap, subst}
use Rattle.lic_norm.specs.Refusal.{max_bytes}
use Rattle.lic_norm.proofs.Refused.{accepted}
use Rattle.lic_norm.proofs.feeder.Feeder.finish.Goals as goal

pub returns-in_ok-of-in-None-clause-accepted : goal.returns-in_ok-of-in-None-clause-accepted
returns-in_ok-of-in-None-clause-accepted c =
    accepted c.args.self.bytes (subst (λ l. length l ≤ max_bytes) (ap (λ v. v.bytes) c.self.view_is) (c.self.invariant.1 c.in-None.is).1)
