use Rattle.std.proofs.Common.{◌≡◌, ℕ, ◌+◌, ◌<◌}
use Rattle.std.specs.Prelude.{slice_index}
use Rattle.lic_trim.specs.Walks.{walked}
use Rattle.lic_trim.proofs.ascii_texts.occurs.Given as goal

-- the characters so far are the same
abbrev pub invariant-loop-i : goal.invariant-loop-i
invariant-loop-i l = (k : ℕ) → k < l.i → slice_index (walked l.side l.line) (l.index + k) ≡ slice_index (walked l.side l.text) k
