use Rattle.std.proofs.Common.{◌≡◌, ◌&&◌, ◌||◌, map, drop}
use Rattle.lic_marks.specs.Cores.{cat_all, alt_all}
use Rattle.lic_marks.specs.Marks.{is_nullable}
use Rattle.lic_marks.specs.Nodes.{core_of}
use Rattle.lic_marks.proofs.build.+is_nullable.Given as goal

abbrev pub invariant-are_all_nullable-loop-child : goal.invariant-are_all_nullable-loop-child
invariant-are_all_nullable-loop-child l =
    (l.all && is_nullable (cat_all (map core_of (drop l.child-index l.children)))) ≡ is_nullable (cat_all (map core_of l.children))

abbrev pub invariant-is_any_nullable-loop-child : goal.invariant-is_any_nullable-loop-child
invariant-is_any_nullable-loop-child l =
    (l.any || is_nullable (alt_all (map core_of (drop l.child-index l.children)))) ≡ is_nullable (alt_all (map core_of l.children))
