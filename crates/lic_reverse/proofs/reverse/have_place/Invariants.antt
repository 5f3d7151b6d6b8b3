-- None of the spans so far has the place.
use Rattle.std.proofs.Common.{ℕ, ◌<◌, get_or}
use Rattle.lic_spans.specs.declared.span.PlaceSpan.{PlaceSpan}
use Rattle.lic_reverse.proofs.ReverseLemmas.{HasNumber}
use Rattle.lic_reverse.proofs.reverse.have_place.Given as goal

abbrev pub invariant-loop-span : goal.invariant-loop-span
invariant-loop-span l = (k : ℕ) (d : PlaceSpan) → k < l.span-index → HasNumber l.view (get_or l.spans k d) l.place → ⊥
