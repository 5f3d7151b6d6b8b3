use Rattle.std.proofs.Common.{◌≡◌, ◌≤◌, ◌-◌, None, arith, sym, ap, ◌∙◌, subst}
use Rattle.lic_marks.specs.Cores.{plus, WordsOf}
use Rattle.lic_marks.specs.Nodes.{core_of, times_over}
use Rattle.lic_marks.specs.declared.node.Times.TheVariants.{Unbounded}
use Rattle.lic_marks.proofs.Nodes.{core_of-One}
use Rattle.lic_auto.specs.Compiling.{AreSame, Repeats}
use Rattle.lic_auto.proofs.Trees.{changed}
use Rattle.lic_auto.proofs.Repetitions.{star_sequence, plus_words, unbounded_sequence, unbounded_words}
use Rattle.lic_auto.proofs.Copies.{copies_of_one}
use Rattle.lic_auto.proofs.Taken.{node_given}
use Rattle.lic_auto.proofs.compile.unbounded.Goals as goal

pub returns-then-min-eq0 : goal.returns-then-min-eq0
returns-then-min-eq0 c =
    let is : core_of c.plus.result ≡ plus (core_of c.args.body) = c.plus.ensures.core ∙ ap (λ n. plus (core_of n)) c.in_ok-new.ensures.ok in
    rw c.if-min-eq0.true (changed _ (star_sequence _ _ is) c.optional.ensures)

pub returns-then-min-eq1 : goal.returns-then-min-eq1
returns-then-min-eq1 c =
    let is : core_of c.plus-then-min-eq1.result ≡ plus (core_of c.args.body) =
    c.plus-then-min-eq1.ensures.core ∙ ap (λ n. plus (core_of n)) c.in_ok-new-2.ensures.ok in
    rw c.if-min-eq1.true record {
      words = subst (λ r. AreSame (WordsOf r) (Repeats (WordsOf (core_of c.args.body)) 1 None)) (sym is) (plus_words (core_of c.args.body));
      measured = c.plus-then-min-eq1.ensures.measured;
    }

pub returns-in_ok-push-in-One-2 : goal.returns-in_ok-push-in-One-2
returns-in_ok-push-in-One-2 c =
    let some : 1 ≤ c.args.min = omega arith in
    let first = copies_of_one c.args.body c.in-One.test _ (c.args.min - 1) _ c.in-One.is c.in_ok-copy-in-One.ensures c.copies.ensures in
    let last : core_of c.plus-in-One.result ≡ plus (core_of c.args.body) =
    c.plus-in-One.ensures.core ∙ ap (λ n. plus (core_of n)) c.in_ok-new-in-One.ensures.ok
    ∙ ap plus (c.one.ensures.core ∙ sym (core_of-One c.in-One.test) ∙ ap core_of (sym c.in-One.is)) in
    changed _ (unbounded_sequence _ _ _ c.args.min some first.core last)
    (rw (c.in_ok-push-in-One-2.ensures.items, c.in_ok-push-in-One.ensures.items, c.new-children.ensures.items) at c.sequence.ensures)

pub returns-in_ok-new-in_default : goal.returns-in_ok-new-in_default
returns-in_ok-new-in_default c =
    let some : 1 ≤ c.args.min = omega arith in
    let built = rw c.in_ok-new-in_default.ensures.ok at c.repeat.ensures.built in
    rw c.ok_or.ensures.value (node_given c.repeat.result _ (times_over (Unbounded (c.args.min - 1)) (core_of c.args.body)) _
    (unbounded_words (core_of c.args.body) c.args.min some) built)
