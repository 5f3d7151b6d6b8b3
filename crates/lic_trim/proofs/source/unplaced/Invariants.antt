use Rattle.std.proofs.Common.{◌≡◌}
use Rattle.lic_trim.specs.Sources.{unplaced, without_dropped}
use Rattle.lic_trim.proofs.source.unplaced.Given as goal

abbrev pub invariant-loop-char : goal.invariant-loop-char
invariant-loop-char l = l.characters.items ≡ without_dropped (unplaced l.yielded)
