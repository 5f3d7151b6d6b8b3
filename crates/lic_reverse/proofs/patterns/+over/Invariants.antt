use Rattle.std.proofs.Common.{◌≤◌, ◌-◌, length, map, drop, take}
use Rattle.std.specs.Prelude.{IfSome}
use Rattle.lic_words.specs.Words.{Power}
use Rattle.lic_words.specs.Expressions.{Language}
use Rattle.lic_ere.specs.Trees.{sequence, tree_of}
use Rattle.lic_ere.specs.Meaning.{choice_words, sequence_words, tree_words}
use Rattle.lic_reverse.specs.Grouped.{AreGroupedWays}
use Rattle.lic_reverse.specs.Reached.{reached_of}
use Rattle.lic_reverse.specs.Tidily.{IsTidyBack, spans_of}
use Rattle.lic_reverse.proofs.TidyPowers.{IsReached}
use Rattle.lic_reverse.proofs.patterns.+over.Given as goal

-- the patterns from this one on are gone over
abbrev pub invariant-over_sequence-loop-number : goal.invariant-over_sequence-loop-number
invariant-over_sequence-loop-number l = record {
  within : l.number ≤ length l.subs;
  back : IsTidyBack l.keep l.view (Language (sequence_words (sequence (map tree_of (drop l.number l.subs))))) (spans_of l.fn.ways) (spans_of l.ways);
}

-- what the patterns so far lead to is found
abbrev pub invariant-over_choice-loop-next : goal.invariant-over_choice-loop-next
invariant-over_choice-loop-next l = record {
  within : l.next ≤ length l.subs;
  groups : IfSome l.grouped (AreGroupedWays l.view l.ways);
  back : IsTidyBack l.keep l.view (Language (choice_words (sequence (map tree_of (take l.next l.subs))))) (spans_of l.ways) (spans_of l.found);
}

abbrev pub decreases-over_choice-loop-next : goal.decreases-over_choice-loop-next
decreases-over_choice-loop-next l = length l.subs - l.next

-- `l.counter` words are gone over
abbrev pub invariant-over_times-loop : goal.invariant-over_times-loop
invariant-over_times-loop l =
    IsTidyBack l.keep l.view (Power (Language (tree_words (tree_of l.body))) l.counter) (spans_of l.fn.ways) (spans_of l.ways)

-- what up to `l.counter` words lead to is found
abbrev pub invariant-over_up_to-loop : goal.invariant-over_up_to-loop
invariant-over_up_to-loop l =
    IsReached l.keep l.view (Language (tree_words (tree_of l.body))) (spans_of l.fn.ways) (reached_of l.reached) (spans_of l.front) l.counter
