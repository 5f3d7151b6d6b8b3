-- The whole stays the same, and fewer tokens wait.
use Rattle.std.proofs.Common.{deque_len, length}
use Rattle.lic_phrases.specs.Waiting.{GivesMore, AreKnown}
use Rattle.lic_phrases.proofs.rewriter.merging.give_known.Given as goal

abbrev pub invariant-loop-first : goal.invariant-loop-first
invariant-loop-first l = record {
  whole : GivesMore l.phrases l.at_end l.initial.output.items l.initial.waiting.items l.output.items l.waiting.items;
  known : AreKnown (length l.phrases.spellings) l.initial.output.items → AreKnown (length l.phrases.spellings) l.output.items;
}

abbrev pub decreases-loop-first : goal.decreases-loop-first
decreases-loop-first l = deque_len l.waiting
