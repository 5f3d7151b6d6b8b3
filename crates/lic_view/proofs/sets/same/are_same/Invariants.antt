use Rattle.std.proofs.Common.{◌≡◌, take}
use Rattle.lic_view.proofs.sets.same.are_same.Given as goal

-- the first ones are the same
abbrev pub invariant-loop-i : goal.invariant-loop-i
invariant-loop-i l = take l.i l.spans ≡ take l.i l.others
