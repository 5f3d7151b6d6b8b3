use Rattle.std.proofs.Common.{◌≡◌, ◌+◌, map, drop}
use Rattle.lic_marks.specs.Cores.{cat_all}
use Rattle.lic_marks.specs.Rows.{weight}
use Rattle.lic_marks.specs.Nodes.{core_of}
use Rattle.lic_marks.proofs.build.total_weight.Given as goal

abbrev pub invariant-loop-child : goal.invariant-loop-child
invariant-loop-child l =
    l.total + weight (cat_all (map core_of (drop l.child-index l.children))) ≡ weight (cat_all (map core_of l.children))
