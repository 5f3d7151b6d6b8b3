use Rattle.std.proofs.Common.{◌≡◌, ◌≤◌, length, map, Some, subst, ap, arith, rules}
use Rattle.std.specs.Prelude.{slice_get}
use Rattle.lic_markup.specs.Parts as nodes
use Rattle.lic_markup.specs.Parts.{part_of}
use Rattle.lic_search.specs.Copies.{AreCopies}
use Rattle.lic_search.proofs.CopyLemmas.{copies-step, copies-sum}
use Rattle.lic_search.proofs.copies.+copies.Goals as goal

pub copies_before-loop-number-preserved : goal.copies_before-loop-number-preserved
copies_before-loop-number-preserved t c =
    let within : c.args.end ≤ length c.args.parts.now = search (rules) in
    copies-step c.args.parts.now c.args.end c.args.text.now c.loop-number.number c.loop-number.count c.in-Some.sum c.index-parts-number.result c.copies_of.result
    (omega (arith, c.loop-number-test.true)) within c.index-parts-number.is c.loop-number.invariant c.copies_of.ensures c.in-Some.ensures

pub copies_of-returns : goal.copies_of-returns
copies_of-returns t c =
    let body = c.in-Optional.body in
    let others = c.copies_before-others.result in
    let size : c.len.result ≡ length body.items = omega (arith, c.len.ensures, c.deref-2.ensures.len, ap length c.deref-2.ensures.value) in
    copies-sum c.args.part.now body c.args.text.now others.first others.count c.checked_add.result _ c.in-Optional.is c.if-others-ne1.false
    (subst (λ x. slice_get (map part_of x) 0 ≡ Some (nodes.letters c.args.text.now)) c.deref.ensures.value (c.begin_with.ensures c.if-not-begin_with.false))
    (subst (λ n. AreCopies body.items n c.args.text.now others.first others.count) size
    (subst (λ x. AreCopies x c.len.result c.args.text.now others.first others.count) c.deref-2.ensures.value c.copies_before-others.ensures.copies))
    c.checked_add.ensures
