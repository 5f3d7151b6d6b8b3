-- The templates so far.
use Rattle.std.proofs.Common.{◌≡◌, map, take}
use Rattle.lic_set.specs.Sets.{all_known, parts_of}
use Rattle.lic_set.proofs.set.templates_of.Given as goal

abbrev pub invariant-loop-one : goal.invariant-loop-one
invariant-loop-one l = map (λ t. t.now.parts) l.templates.items ≡ parts_of (all_known (take l.one-index l.named))
