-- One span more is taken at each step, and at the end all are.
use Rattle.std.proofs.Common.{◌≡◌, ◌∙◌, ℕ, ◌<◌, ◌≤◌, List, ap, arith, get_or, length, subst, sym, take}
use Rattle.std.proofs.Math.Seq.{take-length}
use Rattle.std.proofs.lemmas.List.{take_more}
use Rattle.std.proofs.lemmas.Result.{IfOk-weaker}
use Rattle.std.specs.BinaryHeap.{heap_items}
use Rattle.lic_spans.specs.declared.span.SpanKind.TheVariants.{End}
use Rattle.lic_spans.specs.declared.span.PlaceSpan.{PlaceSpan}
use Rattle.lic_spans.specs.Spans.{BeginsBefore, rank}
use Rattle.lic_spans.specs.Sweeps.{IsLeastOf, IsSweepOf}
use Rattle.lic_spans.proofs.Sorting.{AllPairs-next}
use Rattle.lic_spans.proofs.least.swept.Goals as goal

pub loop-span-init : goal.loop-span-init
loop-span-init c =
    let e = c.new-sweep.ensures in record {
      sweep = e.sweep;
      kinds = λ j d from low. let first : rank c.new-sweep.result.kind ≡ 0 = e.kind in omega arith;
      places = λ j d from low same. let first : c.new-sweep.result.at ≡ 0 = e.at in omega arith;
      few = omega (arith, e.few);
    }

-- what code reads an index with
none : PlaceSpan
none = record { low = 0; high = 0; last = 0; kind = End }

pub loop-span-preserved : goal.loop-span-preserved
unfolding none
loop-span-preserved c =
    let i : ℕ = c.loop-span.span-index in
    let spans : List PlaceSpan = c.args.spans.now in
    let low : i < length spans = c.loop-span-test.true in
    let e = c.in_ok-take.ensures in
    let kind : c.take.new.self.kind ≡ (get_or spans i none).kind = e.kind in
    let at : c.take.new.self.at ≡ (get_or spans i none).low = e.at in
    let few = e.few (take i spans) c.loop-span.invariant.sweep in record {
      sweep =
          subst (λ xs. IsSweepOf xs c.take.new.self.kind c.take.new.self.at (heap_items c.take.new.self.active) c.take.new.self.least.items) (sym (take_more spans i none low))
          (e.sweep (take i spans) c.loop-span.invariant.sweep);
      kinds = λ j d from within.
          let before : BeginsBefore (get_or spans i none) (get_or spans j d) = AllPairs-next BeginsBefore spans c.requires.sorted i none low j d from within in
          subst (λ k. rank k ≤ rank (get_or spans j d).kind) (sym kind) before.kinds;
      places = λ j d from within same.
          let before : BeginsBefore (get_or spans i none) (get_or spans j d) = AllPairs-next BeginsBefore spans c.requires.sorted i none low j d from within in
          subst (λ n. n ≤ (get_or spans j d).low) (sym at) (before.places (sym kind ∙ same));
      few = omega (arith, c.loop-span.invariant.few);
    }

-- all spans were taken
all_taken : (c : goal.After-finish) → take c.loop-span.span-index c.args.spans.now ≡ c.args.spans.now
all_taken c =
    let e : c.loop-span.span-index ≡ length c.args.spans.now = omega arith in
    ap (λ n. take n c.args.spans.now) e ∙ take-length c.args.spans.now

pub returns-clause-least : goal.returns-clause-least
returns-clause-least c =
    IfOk-weaker c.finish.result _ _
    (λ least h. subst (λ xs. IsLeastOf xs least.items) (all_taken c) (h (take c.loop-span.span-index c.args.spans.now) c.loop-span.invariant.sweep)) c.finish.ensures.sweep

pub returns-clause-few : goal.returns-clause-few
returns-clause-few c =
    IfOk-weaker c.finish.result _ _
    (λ least h. let few = h (take c.loop-span.span-index c.args.spans.now) c.loop-span.invariant.sweep in omega (arith, c.loop-span.invariant.few)) c.finish.ensures.few
