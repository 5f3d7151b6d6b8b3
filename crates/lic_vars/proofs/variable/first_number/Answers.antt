-- One span more.
use Rattle.std.proofs.Common.{◌≡◌, ℕ, ◌+◌, ◌<◌, max, min, List, length, get_or, take, ◌∙◌, arith}
use Rattle.lic_spans.specs.declared.span.PlaceSpan.{PlaceSpan}
use Rattle.lic_vars.specs.Shortest.{HaveNone}
use Rattle.lic_vars.proofs.WithinLemmas.{none-more}
use Rattle.lic_vars.proofs.variable.first_number.Goals as goal
use Rattle.lic_vars.proofs.variable.first_number.Goals.{then-low-span, else-low-span}

found : (spans : List PlaceSpan) (i : ℕ) (d : PlaceSpan) (low first from next : ℕ) → i < length spans → HaveNone (take i spans) low first → from ≡ max (get_or spans i d).low low
    → next ≡ min first from → HaveNone (take (i + 1) spans) low next
found spans i d low first from next below before is least =
    none-more spans i d low first next below before (omega (arith, least)) (λ up. omega (arith, least, is))

passed : (spans : List PlaceSpan) (i : ℕ) (d : PlaceSpan) (low first next : ℕ) → i < length spans → HaveNone (take i spans) low first → (get_or spans i d).high < low
    → next ≡ first → HaveNone (take (i + 1) spans) low next
passed spans i d low first next below before under same =
    none-more spans i d low first next below before (omega (arith, same)) (λ up. absurd (omega (arith, up, under)))

pub loop-span-preserved : goal.loop-span-preserved
loop-span-preserved c =
    let spans = c.args.spans.now in
    let i = c.loop-span.span-index in
    let inv = c.loop-span.invariant in
    elim c.if-low-span.branch [
      | then-low-span w ↦ record {
        order = omega (arith, w.first-is, w.min-first.ensures, w.max.ensures, inv.order);
        within = omega (arith, w.first-is, w.min-first.ensures, inv.within);
        none = found spans i _ c.args.low c.loop-span.first w.max.result c.if-low-span.first c.loop-span-test.true inv.none w.max.ensures (w.first-is ∙ w.min-first.ensures);
      }
      | else-low-span w ↦ record {
        order = omega (arith, w.first-is, inv.order);
        within = omega (arith, w.first-is, inv.within);
        none = passed spans i _ c.args.low c.loop-span.first c.if-low-span.first c.loop-span-test.true inv.none w.if-low-span.false w.first-is;
      }
    ]
