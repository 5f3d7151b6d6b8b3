use Rattle.std.proofs.Common.{◌≤◌, length}
use Rattle.lic_view.proofs.MergeLemmas.{AreMergedTo}
use Rattle.lic_view.proofs.sets.merged.merged.Given as goal

-- the spans so far are merged with those of the others that come before them
abbrev pub invariant-loop-span : goal.invariant-loop-span
invariant-loop-span l = record {
  within : l.from ≤ length l.others;
  merged : AreMergedTo l.spans l.others l.all.items l.span-index l.from;
}
