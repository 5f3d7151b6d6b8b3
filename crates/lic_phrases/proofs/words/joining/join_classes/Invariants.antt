use Rattle.std.proofs.Common.{◌≡◌, ℕ, ◌<◌, ◌≤◌, get_or}
use Rattle.lic_phrases.specs.Classes.{replaced}
use Rattle.lic_phrases.proofs.words.joining.join_classes.Given as goal

abbrev pub invariant-loop-head : goal.invariant-loop-head
invariant-loop-head l = record {
  done : (k : ℕ) → k < l.head-index → get_or l.heads k 0 ≡ replaced l.high l.low (get_or l.fn.heads k 0);
  left : (k : ℕ) → l.head-index ≤ k → get_or l.heads k 0 ≡ get_or l.fn.heads k 0;
}
