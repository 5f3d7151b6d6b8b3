use Rattle.std.proofs.Common.{◌≡◌, ℕ, List, Result, Ok, Err, ◌⊎◌, inl, inr, refl}
use Rattle.lic_ere.specs.declared.fault.EreFault.{EreFault}
use Rattle.lic_ere.specs.Trees.{Tree}
use Rattle.lic_ere.specs.Reading.{reading}
use Rattle.lic_ere.specs.Grammar.{IsPattern}
use Rattle.lic_ere.specs.FirstFaults.{IsFaultOf}
use Rattle.lic_ere.proofs.FaultFollows.{reading-IsFaultOf}
use Rattle.lic_ere.proofs.Sound.{reading-IsPattern}
use Rattle.lic_ere.proofs.laws.each_pattern_has_a_tree_or_a_fault.Goals as goal

by_result : (pattern : List ℕ) (r : Result Tree EreFault) → reading pattern ≡ r
    → ((tree : Tree) × IsPattern pattern tree) ⊎ ((e : EreFault) × IsFaultOf pattern e)
by_result pattern (Ok tree) is = inl (tree, reading-IsPattern pattern tree is)
by_result pattern (Err e) is = inr (e, reading-IsFaultOf pattern e is)

pub returns : goal.returns
returns c = λ pattern. by_result pattern (reading pattern) refl
