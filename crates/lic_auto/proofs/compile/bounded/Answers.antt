use Rattle.std.proofs.Common.{◌-◌, refl}
use Rattle.lic_marks.specs.Nodes.{core_of, times_over}
use Rattle.lic_marks.specs.declared.node.Times.TheVariants.{Bounded}
use Rattle.lic_auto.proofs.Trees.{changed}
use Rattle.lic_auto.proofs.Repetitions.{bounded_sequence, bounded_words}
use Rattle.lic_auto.proofs.Copies.{copies_of_one, up_to_of_one}
use Rattle.lic_auto.proofs.Taken.{node_given}
use Rattle.lic_auto.proofs.compile.bounded.Goals as goal

pub returns-in_ok-push-in-One-2 : goal.returns-in_ok-push-in-One-2
returns-in_ok-push-in-One-2 c =
    let first = copies_of_one c.args.body c.in-One.test _ c.args.min _ c.in-One.is c.in_ok-copy-in-One.ensures c.copies.ensures in
    let rest = up_to_of_one c.args.body c.in-One.test c.in-One.test (c.args.max - c.args.min) _ c.in-One.is refl c.up_to.ensures in
    changed _ (bounded_sequence _ _ _ c.args.min c.args.max c.requires.some first.core rest.core)
    (rw (c.in_ok-push-in-One-2.ensures.items, c.in_ok-push-in-One.ensures.items, c.new-children.ensures.items) at c.sequence.ensures)

pub returns-in_ok-new-in_default : goal.returns-in_ok-new-in_default
returns-in_ok-new-in_default c =
    let built = rw c.in_ok-new-in_default.ensures.ok at c.repeat.ensures.built in
    rw c.ok_or.ensures.value (node_given c.repeat.result _ (times_over (Bounded c.args.min (c.args.max - c.args.min)) (core_of c.args.body)) _
    (bounded_words (core_of c.args.body) c.args.min c.args.max c.requires.some) built)
