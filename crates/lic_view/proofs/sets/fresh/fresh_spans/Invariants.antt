use Rattle.std.proofs.Common.{◌≤◌, length, take}
use Rattle.lic_view.specs.Fresh.{AreFresh}
use Rattle.lic_view.proofs.sets.fresh.fresh_spans.Given as goal

-- those so far that are not known were taken
abbrev pub invariant-loop-span : goal.invariant-loop-span
invariant-loop-span l = record {
  within : l.from ≤ length l.known;
  fresh : AreFresh (take l.span-index l.spans) l.known l.fresh.items;
}
