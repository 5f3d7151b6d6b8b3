-- One span more.
use Rattle.std.proofs.Common.{◌+◌, take, refl, sym, ap, ◌∙◌, subst}
use Rattle.lic_vars.specs.Shortest.{AreWithin}
use Rattle.lic_vars.proofs.WithinLemmas.{within-push, within-skip}
use Rattle.lic_vars.proofs.variable.numbers_within.Goals as goal
use Rattle.lic_vars.proofs.variable.numbers_within.Goals.{then-part+in_ok-push, else-part}

pub loop-span-preserved : goal.loop-span-preserved
loop-span-preserved c =
    let spans = c.args.spans.now in
    let i = c.loop-span.span-index in
    let found = c.loop-span.within.items in
    elim c.if-part.branch [
      | then-part+in_ok-push w ↦
          let items = ap (λ v. v.items) w.within-is ∙ w.in_ok-push.ensures.items in
          subst (λ x. AreWithin (take (i + 1) spans) c.args.low c.args.high x) (sym items)
          (within-push c.args.low c.args.high spans found i _ _ c.loop-span-test.true c.loop-span.invariant
          (record { low_is = c.max.ensures; high_is = c.min.ensures; last_is = refl; kind_is = refl }) w.if-part.true)
      | else-part w ↦
          let items = ap (λ v. v.items) w.within-is in
          subst (λ x. AreWithin (take (i + 1) spans) c.args.low c.args.high x) (sym items)
          (within-skip c.args.low c.args.high spans found i _ _ c.loop-span-test.true c.loop-span.invariant
          (record { low_is = c.max.ensures; high_is = c.min.ensures; last_is = refl; kind_is = refl }) w.if-part.false)
    ]
