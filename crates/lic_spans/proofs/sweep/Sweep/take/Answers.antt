-- The sweep continues to where the span begins, and the span is active from there on.
use Rattle.std.proofs.Common.{◌≡◌, ℕ, List, [], ◌∷◌, ◌++◌, sym, ◌∙◌, subst, arith, length, ◌+◌, ◌<◌, ◌^◌}
use Rattle.std.proofs.lemmas.List.Sorted.{length_permutation}
use Rattle.std.specs.BinaryHeap.{heap_items}
use Rattle.lic_spans.specs.declared.span.SpanKind.{SpanKind}
use Rattle.lic_spans.specs.declared.span.PlaceSpan.{PlaceSpan}
use Rattle.lic_spans.specs.Sweeps.{Active, IsSweepOf}
use Rattle.lic_spans.proofs.Sweeping.{IsSweepOf-advanced, IsSweepOf-push}
use Rattle.lic_spans.proofs.sweep.Sweep.take.Goals as goal

pub settle-requires : goal.settle-requires
settle-requires c = c.in_ok-reach.ensures.at c.args.span.low c.requires.places

pub returns-clause-sweep : goal.returns-clause-sweep
returns-clause-sweep c = λ taken h.
    let s : PlaceSpan = c.args.span in
    let e = c.in_ok-settle.ensures in
    let active : List Active = heap_items c.settle.new.self.active in
    let new : List PlaceSpan = c.settle.new.self.least.items in
    let kind : c.settle.new.self.kind ≡ s.kind = e.kind ∙ c.in_ok-reach.ensures.kind in
    let bounded : s.high + 1 < 2 ^ 64 = omega (arith, c.requires.bounded) in
    let there : IsSweepOf taken c.reach.new.self.kind s.low active new =
    IsSweepOf-advanced taken c.reach.new.self.kind c.reach.new.self.at (heap_items c.reach.new.self.active) c.reach.new.self.least.items s.low active new
    e.advances (c.in_ok-reach.ensures.sweep taken h) in
    let pushed : IsSweepOf (taken ++ s ∷ []) s.kind s.low (heap_items c.push.new.self) new =
    IsSweepOf-push taken active new s bounded (heap_items c.push.new.self) c.in_ok-push.ensures.permutation
    (subst (λ k. IsSweepOf taken k s.low active new) c.in_ok-reach.ensures.kind there) in
    let P : SpanKind → ℕ → Type 0 = λ k at. IsSweepOf (taken ++ s ∷ []) k at (heap_items c.push.new.self) new in
    subst (λ at. P c.settle.new.self.kind at) (sym e.at) (subst (λ k. P k s.low) (sym kind) pushed)

pub returns-clause-few : goal.returns-clause-few
returns-clause-few c = λ taken h.
    let x : Active = (record { 0 = c.args.span.last }, c.args.span.high) in
    let active : List Active = heap_items c.settle.new.self.active in
    let few = c.in_ok-reach.ensures.few taken h in
    let more = c.in_ok-settle.ensures.few in
    let one : length (heap_items c.push.new.self) ≡ length (x ∷ active) = length_permutation (x ∷ active) (heap_items c.push.new.self) c.in_ok-push.ensures.permutation in
    omega arith
