use Rattle.std.proofs.Common.{ℕ, List, Option, take}
use Rattle.lic_kind.specs.LineRules.{rules_of}
use Rattle.lic_engine.proofs.CheckLemmas.{AreChecked}
use Rattle.lic_engine.proofs.checking.check.Given as goal

-- the lines so far are gathered, and none is put
abbrev pub invariant-loop-k : goal.invariant-loop-k
invariant-loop-k g l = (a : Option (List ℕ)) → AreChecked (rules_of l.rules) l.words a a l.lines.items (take l.k l.set) l.all
