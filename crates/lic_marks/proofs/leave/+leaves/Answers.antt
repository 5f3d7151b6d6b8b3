use Rattle.std.proofs.Common.{◌||◌, false, ap, rules, arith}
use Rattle.lic_marks.specs.Cores.{cat_all, alt_all}
use Rattle.lic_marks.specs.Nodes.{core_of, passes}
use Rattle.lic_marks.specs.declared.node.Node.{the_lemmas}
use Rattle.lic_marks.proofs.Nodes.{core_of-One, core_of-Copies, core_of-UpTo, core_of-Cat, core_of-Alt, core_of-Repeat, core_of-Plus, core_of-Tidy, children-Cat, children-Alt, child-Repeat, child-Plus, child-Tidy, nullable-Tidy}
use Rattle.lic_marks.proofs.LetterSteps.{weight-copies, weight-up_to}
use Rattle.lic_marks.proofs.RowSteps.{Leaves-empty, Leaves-none, Leaves-one, Leaves-cat, Leaves-alt, Leaves-plus, Leaves-tidy, Leaves-tidy-after, Leaves-front}
use Rattle.lic_marks.proofs.Counted.{weight-copies as weight-copies_of, weight-same, position_past, copies_more, up_to_more, copies_done, up_to_done}
use Rattle.lic_marks.proofs.Children.{cores_more, cores_done, measured_at}
use Rattle.lic_marks.proofs.Answers.{or_none, or_again}
use Rattle.lic_marks.proofs.ClearRows.{none_set}
use Rattle.lic_marks.proofs.Untouched.{Leaves-clear}
use Rattle.lic_marks.proofs.leave.+leaves.Goals as goal

pub leaves-returns-then-not-is_any_set : goal.leaves-returns-then-not-is_any_set
leaves-returns-then-not-is_any_set t c =
    rw c.if-not-entry.true (Leaves-clear _ c.args.after c.args.row.now c.args.at c.requires.within
    (none_set _ _ _ _ c.if-not-is_any_set.true (rw c.weight.ensures at c.is_any_set.ensures)))

pub leaves-leaves_row-requires : goal.leaves-leaves_row-requires
leaves-leaves_row-requires t c = (
  search (rules, the_lemmas),
  (
    rw c.deref-in-Cat.ensures.value (children-Cat _ _ (rw c.in-Cat.is at c.requires.measured)),
    rw c.deref-in-Cat.ensures.value (rw (c.in-Cat.is, core_of-Cat) at c.requires.within),
  ),
)

pub leaves-leaves_any-requires : goal.leaves-leaves_any-requires
leaves-leaves_any-requires t c = (
  search (rules, the_lemmas),
  (
    rw c.deref-in-Alt.ensures.value (children-Alt _ _ (rw c.in-Alt.is at c.requires.measured)),
    rw c.deref-in-Alt.ensures.value (rw (c.in-Alt.is, core_of-Alt) at c.requires.within),
  ),
)

pub leaves-leaves-requires : goal.leaves-leaves-requires
leaves-leaves-requires t c = (
  search (rules, the_lemmas),
  (
    rw c.deref-in-Plus.ensures (child-Plus _ _ (rw c.in-Plus.is at c.requires.measured)),
    rw c.deref-in-Plus.ensures (rw (c.in-Plus.is, core_of-Plus) at c.requires.within),
  ),
)

pub leaves-leaves_tidy-requires : goal.leaves-leaves_tidy-requires
leaves-leaves_tidy-requires t c = (
  search (rules, the_lemmas),
  (
    rw c.deref-in-Tidy.ensures (child-Tidy _ _ _ (rw c.in-Tidy.is at c.requires.measured)),
    (
      rw c.deref-in-Tidy.ensures (nullable-Tidy _ _ _ (rw c.in-Tidy.is at c.requires.measured)),
      rw c.deref-in-Tidy.ensures (rw (c.in-Tidy.is, core_of-Tidy) at c.requires.within),
    ),
  ),
)

pub leaves-leaves_copies-requires : goal.leaves-leaves_copies-requires
leaves-leaves_copies-requires t c =
    let width = rw (c.in-Copies.is, core_of-Copies) at c.requires.within in
    omega (arith, width, weight-copies (passes c.in-Copies.test) c.in-Copies.count)

pub leaves-leaves_up_to-requires : goal.leaves-leaves_up_to-requires
leaves-leaves_up_to-requires t c =
    let width = rw (c.in-UpTo.is, core_of-UpTo) at c.requires.within in
    omega (arith, width, weight-up_to (passes c.in-UpTo.test) c.in-UpTo.count)

pub leaves-returns-in-Copies : goal.leaves-returns-in-Copies
leaves-returns-in-Copies t c = rw (c.in-Copies.is, core_of-Copies) (c.leaves_copies.ensures (passes c.in-Copies.test))

pub leaves-returns-in-UpTo : goal.leaves-returns-in-UpTo
leaves-returns-in-UpTo t c = rw (c.in-UpTo.is, core_of-UpTo) (c.leaves_up_to.ensures (passes c.in-UpTo.test))

pub leaves-returns-in-One : goal.leaves-returns-in-One
leaves-returns-in-One t c =
    let width = rw (c.in-One.is, core_of-One) at c.requires.within in
    rw (c.in-One.is, core_of-One) (Leaves-one _ _ _ _ _ _ false (omega (arith, width)) c.get.ensures)

pub leaves-returns-in-Plus : goal.leaves-returns-in-Plus
leaves-returns-in-Plus t c = rw (c.in-Plus.is, core_of-Plus) (Leaves-plus _ _ _ _ _ _ (rw c.deref-in-Plus.ensures at c.leaves.ensures))

pub leaves-returns-in-Tidy : goal.leaves-returns-in-Tidy
leaves-returns-in-Tidy t c = rw (c.in-Tidy.is, core_of-Tidy) (rw c.deref-in-Tidy.ensures at c.leaves_tidy.ensures)

pub leaves_tidy-returns-then-after : goal.leaves_tidy-returns-then-after
leaves_tidy-returns-then-after t c = rw c.if-after.true (Leaves-tidy-after _ _ _ _ _ c.requires.empty)

pub leaves_tidy-returns-else-after : goal.leaves_tidy-returns-else-after
leaves_tidy-returns-else-after t c = rw c.if-after.false (Leaves-tidy _ _ _ _ _ (rw c.if-after.false at c.leaves.ensures))

pub leaves_row-leaves-flag-requires : goal.leaves_row-leaves-flag-requires
leaves_row-leaves-flag-requires t c =
    let more = ap cat_all (cores_more c.args.children.now c.loop-child.child-index _ c.loop-child-test.true c.child-item.is) in
    let rest = rw more at c.loop-child.invariant.rest in (
      search (rules, the_lemmas),
      (
        measured_at c.args.children.now c.loop-child.child-index _ c.requires.measured c.loop-child-test.true c.child-item.is,
        omega (arith, rest, c.requires.within),
      ),
    )

pub leaves_row-loop-child-preserved : goal.leaves_row-loop-child-preserved
leaves_row-loop-child-preserved t c =
    let more = ap cat_all (cores_more c.args.children.now c.loop-child.child-index _ c.loop-child-test.true c.child-item.is) in
    let rest = rw more at c.loop-child.invariant.rest in
    rw c.weight-position.ensures record {
      begun = omega (arith, c.loop-child.invariant.begun);
      rest = omega (arith, rest);
      walk = λ y q. c.loop-child.invariant.walk y (rw more (Leaves-cat _ _ _ _ _ _ _ _ c.leaves-flag.ensures q));
    }

pub leaves_row-returns : goal.leaves_row-returns
leaves_row-returns t c =
    c.loop-child.invariant.walk c.loop-child.flag
    (rw (cores_done c.args.children.now c.loop-child.child-index c.loop-child-test.false) (Leaves-empty _ _ _ _))

pub leaves_any-leaves-out-requires : goal.leaves_any-leaves-out-requires
leaves_any-leaves-out-requires t c =
    let more = ap alt_all (cores_more c.args.children.now c.loop-child.child-index _ c.loop-child-test.true c.child-item.is) in
    let rest = rw more at c.loop-child.invariant.rest in (
      search (rules, the_lemmas),
      (
        measured_at c.args.children.now c.loop-child.child-index _ c.requires.measured c.loop-child-test.true c.child-item.is,
        omega (arith, rest, c.requires.within),
      ),
    )

pub leaves_any-loop-child-preserved : goal.leaves_any-loop-child-preserved
leaves_any-loop-child-preserved t c =
    let more = ap alt_all (cores_more c.args.children.now c.loop-child.child-index _ c.loop-child-test.true c.child-item.is) in
    let rest = rw more at c.loop-child.invariant.rest in
    rw c.weight-position.ensures record {
      begun = omega (arith, c.loop-child.invariant.begun);
      rest = omega (arith, rest);
      walk = λ y q. rw (← or_again c.loop-child.found c.leaves-out.result y)
          (c.loop-child.invariant.walk (c.leaves-out.result || y) (rw more (Leaves-alt _ _ _ _ _ _ _ _ c.leaves-out.ensures q)));
    }

pub leaves_any-returns : goal.leaves_any-returns
leaves_any-returns t c =
    rw (← or_none c.loop-child.found) (c.loop-child.invariant.walk false
    (rw (cores_done c.args.children.now c.loop-child.child-index c.loop-child-test.false) (Leaves-none _ _ _ _)))

pub leaves-leaves_repeat-requires : goal.leaves-leaves_repeat-requires
leaves-leaves_repeat-requires t c = (
  search (rules, the_lemmas),
  (
    rw c.deref-in-Repeat.ensures (child-Repeat _ _ _ (rw c.in-Repeat.is at c.requires.measured)),
    rw c.deref-in-Repeat.ensures (rw (c.in-Repeat.is, core_of-Repeat) at c.requires.within),
  ),
)

pub leaves-returns-in-Repeat : goal.leaves-returns-in-Repeat
leaves-returns-in-Repeat t c = rw (c.in-Repeat.is, core_of-Repeat) (rw c.deref-in-Repeat.ensures at c.leaves_repeat.ensures)

pub leaves_copies_of-leaves-flag-requires : goal.leaves_copies_of-leaves-flag-requires
leaves_copies_of-leaves-flag-requires t c =
    let more = copies_more (core_of c.args.child.now) c.args.count c.loop.counter c.loop-test.true in
    let rest = rw more at c.loop.invariant.rest in (
      search (rules, the_lemmas),
      (
        c.requires.measured,
        omega (arith, rest, c.requires.within),
      ),
    )

pub leaves_copies_of-overflow_add-position : goal.leaves_copies_of-overflow_add-position
leaves_copies_of-overflow_add-position t c =
    let more = copies_more (core_of c.args.child.now) c.args.count c.loop.counter c.loop-test.true in
    let rest = rw more at c.loop.invariant.rest in
    omega (arith, rest, c.requires.within, c.weight-weight.ensures, c.len-width.ensures)

pub leaves_copies_of-loop-preserved : goal.leaves_copies_of-loop-preserved
leaves_copies_of-loop-preserved t c =
    let more = copies_more (core_of c.args.child.now) c.args.count c.loop.counter c.loop-test.true in
    let mores = up_to_more (core_of c.args.child.now) c.args.count c.loop.counter c.loop-test.true in
    let rest = rw more at c.loop.invariant.rest in
    rw c.weight-weight.ensures record {
      begun = omega (arith, c.loop.invariant.begun);
      rest = omega (arith, rest);
      walk = λ y q. c.loop.invariant.walk y (rw more (Leaves-cat _ _ _ _ _ _ _ _ c.leaves-flag.ensures q));
      front = λ y q. rw (← or_again c.loop.found c.loop.flag y)
          (c.loop.invariant.front (c.loop.flag || y)
          (rw mores (Leaves-front _ _ _ _ _ _ _ _ c.leaves-flag.ensures q)));
    }

pub leaves_copies_of-returns : goal.leaves_copies_of-returns
leaves_copies_of-returns t c =
    record {
      all = c.loop.invariant.walk c.loop.flag
          (rw (copies_done (core_of c.args.child.now) c.args.count c.loop.counter c.loop-test.false)
          (Leaves-empty _ _ _ _));
      any = c.loop.invariant.front c.loop.flag
          (rw (up_to_done (core_of c.args.child.now) c.args.count c.loop.counter c.loop-test.false)
          (Leaves-empty _ _ _ _));
    }

pub leaves_repeat-overflow_mul-position : goal.leaves_repeat-overflow_mul-position
leaves_repeat-overflow_mul-position t c =
    let width = rw c.in-Bounded.is at c.requires.within in
    rw c.weight.ensures (omega (arith, width, c.len-width.ensures, weight-copies_of (core_of c.args.child.now) c.in-Bounded.needed))

pub leaves_repeat-overflow_add-position : goal.leaves_repeat-overflow_add-position
leaves_repeat-overflow_add-position t c =
    let width = rw c.in-Bounded.is at c.requires.within in
    rw c.weight.ensures (omega (arith, width, c.len-width.ensures, weight-copies_of (core_of c.args.child.now) c.in-Bounded.needed))

pub leaves_repeat-leaves_copies_of-out-requires : goal.leaves_repeat-leaves_copies_of-out-requires
leaves_repeat-leaves_copies_of-out-requires t c =
    let next = position_past (core_of c.args.child.now) c.in-Bounded.needed c.args.at _ c.weight.ensures in
    let same = weight-same (core_of c.args.child.now) c.in-Bounded.more in
    let width = rw c.in-Bounded.is at c.requires.within in (
      search (rules, the_lemmas),
      (
        c.requires.measured,
        rw next (omega (arith, width, same)),
      ),
    )

pub leaves_repeat-returns-in-Bounded : goal.leaves_repeat-returns-in-Bounded
leaves_repeat-returns-in-Bounded t c =
    let next = position_past (core_of c.args.child.now) c.in-Bounded.needed c.args.at _ c.weight.ensures in
    rw c.in-Bounded.is (Leaves-cat _ _ _ _ _ _ _ _ c.leaves_copies_of-past.ensures.all (rw next at c.leaves_copies_of-out.ensures.any))

pub leaves_repeat-overflow_mul-position-in-Unbounded : goal.leaves_repeat-overflow_mul-position-in-Unbounded
leaves_repeat-overflow_mul-position-in-Unbounded t c =
    let width = rw c.in-Unbounded.is at c.requires.within in
    rw c.weight-in-Unbounded.ensures (omega (arith, width, c.len-width.ensures, weight-copies_of (core_of c.args.child.now) c.in-Unbounded.before))

pub leaves_repeat-overflow_add-position-in-Unbounded : goal.leaves_repeat-overflow_add-position-in-Unbounded
leaves_repeat-overflow_add-position-in-Unbounded t c =
    let width = rw c.in-Unbounded.is at c.requires.within in
    rw c.weight-in-Unbounded.ensures (omega (arith, width, c.len-width.ensures, weight-copies_of (core_of c.args.child.now) c.in-Unbounded.before))

pub leaves_repeat-leaves-requires : goal.leaves_repeat-leaves-requires
leaves_repeat-leaves-requires t c =
    let next = position_past (core_of c.args.child.now) c.in-Unbounded.before c.args.at _ c.weight-in-Unbounded.ensures in
    let width = rw c.in-Unbounded.is at c.requires.within in (
      search (rules, the_lemmas),
      (
        c.requires.measured,
        rw next (omega (arith, width)),
      ),
    )

pub leaves_repeat-returns-in-Unbounded : goal.leaves_repeat-returns-in-Unbounded
leaves_repeat-returns-in-Unbounded t c =
    let next = position_past (core_of c.args.child.now) c.in-Unbounded.before c.args.at _ c.weight-in-Unbounded.ensures in
    rw c.in-Unbounded.is (Leaves-cat _ _ _ _ _ _ _ _ c.leaves_copies_of-past-in-Unbounded.ensures.all (Leaves-plus _ _ _ _ _ _ (rw next at c.leaves.ensures)))
