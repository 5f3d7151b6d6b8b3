-- The spans of the letters so far.
use Rattle.std.proofs.Common.{◌≡◌, slice_range}
use Rattle.lic_vars.specs.Values.{letter_spans}
use Rattle.lic_vars.proofs.letters.letter_spans.Given as goal

abbrev pub invariant-loop-i : goal.invariant-loop-i
invariant-loop-i l = l.spans.items ≡ letter_spans (slice_range l.text.tokens l.first l.i)
