-- What a sweep has done, in words on the sweep itself.
use Rattle.std.specs.Prelude.{ℕ, ◌+◌, List, length}
use Rattle.std.specs.BinaryHeap.{heap_items}
use Rattle.lic_spans.specs.declared.span.PlaceSpan.{PlaceSpan}
use Rattle.lic_spans.specs.declared.sweep.Sweep.{Sweep}
use Rattle.lic_spans.specs.Sweeps.{Advances, IsSweepOf}

-- the sweep has taken these spans, and done what lies before its place
abbrev pub HasTaken : List PlaceSpan → Sweep → Type 0
HasTaken taken sweep = IsSweepOf taken sweep.kind sweep.at (heap_items sweep.active) sweep.least.items

-- the sweep continued to the place within its kind
abbrev pub HasReached : Sweep → ℕ → Sweep → Type 0
HasReached old to new = Advances old.kind old.at (heap_items old.active) old.least.items to (heap_items new.active) new.least.items

-- how many spans it holds, those that are active and those that are done
abbrev pub size_of : Sweep → ℕ
size_of sweep = length sweep.least.items + length (heap_items sweep.active)
