use Rattle.std.proofs.Common.{◌≤◌, length}
use Rattle.lic_view.specs.Backward.{IsBack}
use Rattle.lic_search.specs.Copies.{words_from}
use Rattle.lic_search.proofs.backward.+backward.Given as goal

-- the places from which a word of the parts from this one on leads to those of the spans
abbrev pub invariant-over_parts-loop-end : goal.invariant-over_parts-loop-end
invariant-over_parts-loop-end l = record {
  within : l.end ≤ length l.parts;
  back : IsBack l.keep l.view (words_from l.parts l.end) l.fn.spans.items l.spans.items;
}

abbrev pub decreases-over_parts-loop-end : goal.decreases-over_parts-loop-end
decreases-over_parts-loop-end l = l.end
