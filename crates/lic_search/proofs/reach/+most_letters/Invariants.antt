-- The most letters of the words of the patterns so far.
use Rattle.std.proofs.Common.{◌<◌, map, take}
use Rattle.lic_ere.specs.Trees.{sequence, tree_of}
use Rattle.lic_ere.specs.Meaning.{choice_words, sequence_words}
use Rattle.lic_search.specs.Ends.{HasAtMost}
use Rattle.lic_search.proofs.reach.+most_letters.Given as goal

abbrev pub invariant-most_choice_letters-loop-sub : goal.invariant-most_choice_letters-loop-sub
invariant-most_choice_letters-loop-sub l = l.most < 18446744073709551615 → HasAtMost (choice_words (sequence (map tree_of (take l.sub-index l.subs)))) l.most

abbrev pub invariant-most_sequence_letters-loop-sub : goal.invariant-most_sequence_letters-loop-sub
invariant-most_sequence_letters-loop-sub l = l.most < 18446744073709551615 → HasAtMost (sequence_words (sequence (map tree_of (take l.sub-index l.subs)))) l.most
