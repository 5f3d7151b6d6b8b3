-- What is known of the ends is listed.
use Rattle.std.proofs.Common.{Some, sym, ap, ◌∙◌}
use Rattle.std.specs.Option.{option_map}
use Rattle.lic_literals.specs.Kept.{ends_of, listed}
use Rattle.lic_literals.proofs.kept.Kept.ends.Goals as goal

pub returns-in_ok-list-in-Some : goal.returns-in_ok-list-in-Some
unfolding ends_of
returns-in_ok-list-in-Some c = ap Some c.in_ok-list-in-Some.ensures ∙ sym (ap (option_map (λ ends. listed ends)) c.in-Some.is)

pub returns-in-None : goal.returns-in-None
unfolding ends_of
returns-in-None c = sym (ap (option_map (λ ends. listed ends)) c.in-None.is)
