use Rattle.std.proofs.Common.{◌≡◌, ◌+◌, ◌≤◌, length}
use Rattle.std.specs.Prelude.{take, map}
use Rattle.lic_trim.specs.Sources.{chars_of}
use Rattle.lic_trim.specs.Texts.{is_sequence, greatest}
use Rattle.lic_kind.specs.LineRules.{rules_of}
use Rattle.lic_trim.specs.Walks.{walked, is_walked_piece, side_repeated, repeat_ends, AreSequences, IsStreakFront}
use Rattle.lic_trim.proofs.sequences.longest_sequence.Given as goal

abbrev pub invariant-loop-k : goal.invariant-loop-k
invariant-loop-k l = record {
  count : length l.flags.items ≡ l.k + 1;
  sequences : AreSequences (is_walked_piece (rules_of l.rules) l.side) l.flags.items (walked l.side (chars_of l.line));
  front : IsStreakFront l.flags.items (walked l.side (chars_of l.line)) l.k l.first;
  best : l.longest ≡ greatest (λ n. is_sequence (is_walked_piece (rules_of l.rules) l.side) (take n (walked l.side (chars_of l.line)))) l.k;
  within : l.longest ≤ l.k;
  repeats : l.repeating.items ≡ map (repeat_ends l.flags.items (walked l.side (chars_of l.line)) l.k) (side_repeated (rules_of l.rules) l.side);
}
