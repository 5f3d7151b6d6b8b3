use Rattle.std.proofs.Common.{◌≡◌, ◌+◌, ◌++◌, drop}
use Rattle.lic_trim.specs.Sources.{placed}
use Rattle.lic_trim.proofs.source.put_source.Given as goal

-- the characters so far, and those of what is left
abbrev pub invariant-loop-i : goal.invariant-loop-i
invariant-loop-i l = l.characters.items ++ placed (l.at + l.i) (drop l.i l.text) ≡ placed l.at l.text
