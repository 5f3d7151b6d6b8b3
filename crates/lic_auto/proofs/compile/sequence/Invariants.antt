use Rattle.std.proofs.Common.{◌≡◌, true, map, take, length}
use Rattle.std.specs.List.{list_all}
use Rattle.lic_marks.specs.Cores.{WordsOf, cat_all}
use Rattle.lic_marks.specs.Nodes.{core_of, is_measured}
use Rattle.lic_auto.specs.Compiling.{AreSame}
use Rattle.lic_auto.proofs.compile.sequence.Given as goal

-- the kept children have the words of the children so far
abbrev pub invariant-loop-child : goal.invariant-loop-child
invariant-loop-child l = record {
  measured : list_all is_measured l.kept.items ≡ true;
  words : AreSame (WordsOf (cat_all (map core_of l.kept.items)))
      (WordsOf (cat_all (map core_of (take (length l.yielded) l.fn.children.items))));
}
