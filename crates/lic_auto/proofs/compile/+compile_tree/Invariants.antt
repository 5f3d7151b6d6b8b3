use Rattle.std.proofs.Common.{◌≡◌, true, map, take}
use Rattle.std.specs.List.{list_all}
use Rattle.lic_words.specs.Expressions.{Language}
use Rattle.lic_words.specs.Expressions as words
use Rattle.lic_marks.specs.Cores.{WordsOf, alt_all}
use Rattle.lic_marks.specs.Nodes.{core_of, is_measured}
use Rattle.lic_auto.specs.Compiling.{AreSame, AllHaveWords, pattern_words}
use Rattle.lic_auto.proofs.WordSets.{Either, EmptyIf}
use Rattle.lic_auto.specs.Directions.{read}
use Rattle.lic_auto.proofs.compile.+compile_tree.Given as goal

-- the patterns so far are compiled
abbrev pub invariant-compile_trees-loop-sub : goal.invariant-compile_trees-loop-sub
invariant-compile_trees-loop-sub l = AllHaveWords l.nodes.items (map (read l.direction) (map pattern_words (take l.sub-index l.subs)))

-- the kept nodes, and the empty word where it was left out, have the words of the patterns so far
abbrev pub invariant-compile_choice-loop-sub : goal.invariant-compile_choice-loop-sub
invariant-compile_choice-loop-sub l = record {
  measured : list_all is_measured l.kept.items ≡ true;
  words : AreSame (Either (EmptyIf l.has_empty) (WordsOf (alt_all (map core_of l.kept.items))))
      (Language (words.alt_all (map (read l.direction) (map pattern_words (take l.sub-index l.subs)))));
}
