use Rattle.std.proofs.Common.{◌≡◌, ◌+◌, ◌||◌, ◌&&◌, ◌==◌, not, false, set, length, refl, ap, ◌∙◌, rules, arith, eq-eqb}
use Rattle.std.proofs.lemmas.Bool.{ne_eqb}
use Rattle.std.proofs.lemmas.List.{length-set}
use Rattle.lic_words.specs.Words.{blank}
use Rattle.lic_marks.specs.Cores.{cat_all, alt_all}
use Rattle.lic_marks.specs.Nodes.{core_of, passes}
use Rattle.lic_marks.specs.declared.node.Node.{the_lemmas}
use Rattle.lic_marks.proofs.Nodes.{core_of-One, core_of-Copies, core_of-UpTo, core_of-Cat, core_of-Alt, core_of-Repeat, core_of-Plus, core_of-Tidy, children-Cat, children-Alt, child-Repeat, child-Plus, child-Tidy, nullable-Tidy}
use Rattle.lic_marks.proofs.LetterSteps.{weight-copies, weight-up_to}
use Rattle.lic_marks.proofs.RowSteps.{Shifts-empty, Shifts-none, Shifts-one, Shifts-cat, Shifts-alt, Shifts-front, Shifts-plus, Shifts-tidy, Shifts-tidy-clear, Leaves-tidy-after}
use Rattle.lic_marks.proofs.Leaving.{Leaves-tidy-past, and_never, never_and}
use Rattle.lic_marks.proofs.Counted.{weight-copies as weight-copies_of, weight-same, position_past, copies_more, up_to_more, copies_done, up_to_done}
use Rattle.lic_marks.proofs.Children.{cores_more, cores_done, measured_at}
use Rattle.lic_marks.proofs.Answers.{or_none, or_again}
use Rattle.lic_marks.proofs.Untouched.{Shifts-untouched}
use Rattle.lic_marks.proofs.ClearRows.{patched_clear, none_set}
use Rattle.lic_marks.proofs.shift.+shift.Goals as goal
use Rattle.lic_marks.proofs.shift.+shift.Goals.{shift_tidy-else-reading-eq32-via-then-reading-eq32+else-reading, shift_tidy-else-reading-eq32-via-else-reading-eq32}

pub shift-returns-then-not-is_any_set : goal.shift-returns-then-not-is_any_set
shift-returns-then-not-is_any_set t c =
    let clear = none_set _ _ _ _ c.if-not-is_any_set.true (rw c.weight.ensures at c.is_any_set.ensures) in
    record {
      shifts = rw c.if-not-entry.true (Shifts-untouched _ c.args.reading.after c.args.row.now c.args.at c.requires.within clear c.args.reading.letter);
      len = refl;
    }

pub shift-shift_row-requires : goal.shift-shift_row-requires
shift-shift_row-requires t c = (
  search (rules, the_lemmas),
  (
    rw c.deref-in-Cat.ensures.value (children-Cat _ _ (rw c.in-Cat.is at c.requires.measured)),
    rw c.deref-in-Cat.ensures.value (rw (c.in-Cat.is, core_of-Cat) at c.requires.within),
  ),
)

pub shift-shift_any-requires : goal.shift-shift_any-requires
shift-shift_any-requires t c = (
  search (rules, the_lemmas),
  (
    rw c.deref-in-Alt.ensures.value (children-Alt _ _ (rw c.in-Alt.is at c.requires.measured)),
    rw c.deref-in-Alt.ensures.value (rw (c.in-Alt.is, core_of-Alt) at c.requires.within),
  ),
)

pub shift-shift_tidy-requires : goal.shift-shift_tidy-requires
shift-shift_tidy-requires t c = (
  search (rules, the_lemmas),
  (
    rw c.deref-in-Tidy.ensures (child-Tidy _ _ _ (rw c.in-Tidy.is at c.requires.measured)),
    (
      rw c.deref-in-Tidy.ensures (nullable-Tidy _ _ _ (rw c.in-Tidy.is at c.requires.measured)),
      rw c.deref-in-Tidy.ensures (rw (c.in-Tidy.is, core_of-Tidy) at c.requires.within),
    ),
  ),
)

pub shift-shift_copies-requires : goal.shift-shift_copies-requires
shift-shift_copies-requires t c =
    let width = rw (c.in-Copies.is, core_of-Copies) at c.requires.within in
    omega (arith, width, weight-copies (passes c.in-Copies.test) c.in-Copies.count)

pub shift-returns-in-Copies : goal.shift-returns-in-Copies
shift-returns-in-Copies t c = record {
  shifts = rw (c.in-Copies.is, core_of-Copies) c.shift_copies.ensures.shifts;
  len = c.shift_copies.ensures.len;
}

pub shift-shift_up_to-requires : goal.shift-shift_up_to-requires
shift-shift_up_to-requires t c =
    let width = rw (c.in-UpTo.is, core_of-UpTo) at c.requires.within in
    omega (arith, width, weight-up_to (passes c.in-UpTo.test) c.in-UpTo.count)

pub shift-returns-in-UpTo : goal.shift-returns-in-UpTo
shift-returns-in-UpTo t c = record {
  shifts = rw (c.in-UpTo.is, core_of-UpTo) c.shift_up_to.ensures.shifts;
  len = c.shift_up_to.ensures.len;
}

pub shift-returns-in-One : goal.shift-returns-in-One
shift-returns-in-One t c =
    let width = rw (c.in-One.is, core_of-One) at c.requires.within in
    record {
      shifts = rw (c.in-One.is, core_of-One) (Shifts-one _ _ _ _ _ _ _ _ false (omega (arith, width)) c.get-out.ensures
          (c.put.ensures ∙ ap (λ b. set c.args.row.now c.args.at (c.args.entry && b)) c.passes-is_passed.ensures));
      len = ap length c.put.ensures ∙ length-set c.args.row.now c.args.at _;
    }

pub shift-shift_plus-requires : goal.shift-shift_plus-requires
shift-shift_plus-requires t c = (
  search (rules, the_lemmas),
  (
    rw c.deref-in-Plus.ensures (child-Plus _ _ (rw c.in-Plus.is at c.requires.measured)),
    rw c.deref-in-Plus.ensures (rw (c.in-Plus.is, core_of-Plus) at c.requires.within),
  ),
)

pub shift-returns-in-Plus : goal.shift-returns-in-Plus
shift-returns-in-Plus t c = record {
  shifts = rw (c.in-Plus.is, core_of-Plus) (rw c.deref-in-Plus.ensures at c.shift_plus.ensures.shifts);
  len = c.shift_plus.ensures.len;
}

pub shift-shift_repeat-requires : goal.shift-shift_repeat-requires
shift-shift_repeat-requires t c = (
  search (rules, the_lemmas),
  (
    rw c.deref-in-Repeat.ensures (child-Repeat _ _ _ (rw c.in-Repeat.is at c.requires.measured)),
    rw c.deref-in-Repeat.ensures (rw (c.in-Repeat.is, core_of-Repeat) at c.requires.within),
  ),
)

pub shift-returns-in-Repeat : goal.shift-returns-in-Repeat
shift-returns-in-Repeat t c = record {
  shifts = rw (c.in-Repeat.is, core_of-Repeat) (rw c.deref-in-Repeat.ensures at c.shift_repeat.ensures.shifts);
  len = c.shift_repeat.ensures.len;
}

pub shift_plus-returns-in-One : goal.shift_plus-returns-in-One
shift_plus-returns-in-One t c = record {
  shifts = rw (c.in-One.is, core_of-One) c.shift_letters_of.ensures.shifts;
  len = c.shift_letters_of.ensures.len;
}

pub shift_plus-returns : goal.shift_plus-returns
shift_plus-returns t c = record {
  shifts = Shifts-plus _ _ _ _ _ _ _ _ _ c.leaves-again.ensures c.shift.ensures.shifts;
  len = c.shift.ensures.len;
}

pub shift-returns-in-Tidy : goal.shift-returns-in-Tidy
shift-returns-in-Tidy t c = record {
  shifts = rw (c.in-Tidy.is, core_of-Tidy) (rw c.deref-in-Tidy.ensures at c.shift_tidy.ensures.shifts);
  len = c.shift_tidy.ensures.len;
}

pub shift_tidy-returns-then-reading : goal.shift_tidy-returns-then-reading
shift_tidy-returns-then-reading t c =
    let next = ap (λ n. c.args.at + n) c.weight.ensures in
    record {
      shifts = rw c.if-reading.true (Shifts-tidy-clear _ _ _ _ _ _ _ _ (eq-eqb c.args.reading.letter blank c.if-reading-eq32.true)
          (Leaves-tidy-after _ _ _ _ _ c.requires.empty) next
          (patched_clear c.args.row.now c.clear.new.self c.args.at _ (omega arith) (omega (arith, next, c.requires.within)) c.clear.ensures.len c.clear.ensures.kept c.clear.ensures.inside));
      len = c.clear.ensures.len;
    }

pub shift_tidy-returns : goal.shift_tidy-returns
shift_tidy-returns t c =
    let apart : ((c.args.reading.letter == blank) && c.args.reading.after) ≡ false = elim c.else-reading-eq32.branch [
      | shift_tidy-else-reading-eq32-via-then-reading-eq32+else-reading w ↦ and_never _ _ w.if-reading.false
      | shift_tidy-else-reading-eq32-via-else-reading-eq32 w ↦ never_and _ _ (ne_eqb _ _ w.if-reading-eq32.false)
    ] in record {
      shifts = Shifts-tidy _ _ _ _ _ _ _ _ _ apart
          (Leaves-tidy-past _ _ _ (not
          (c.args.reading.letter == blank)) _ _ _ _ c.requires.empty c.shift-past.ensures.shifts.walk) c.shift-past.ensures.shifts;
      len = c.shift-past.ensures.len;
    }

pub shift_row-shift-flag-requires : goal.shift_row-shift-flag-requires
shift_row-shift-flag-requires t c =
    let more = ap cat_all (cores_more c.args.children.now c.loop-child.child-index _ c.loop-child-test.true c.child-item.is) in
    let rest = rw more at c.loop-child.invariant.rest in (
      search (rules, the_lemmas),
      (
        measured_at c.args.children.now c.loop-child.child-index _ c.requires.measured c.loop-child-test.true c.child-item.is,
        omega (arith, rest, c.requires.within),
      ),
    )

pub shift_row-loop-child-preserved : goal.shift_row-loop-child-preserved
shift_row-loop-child-preserved t c =
    let more = ap cat_all (cores_more c.args.children.now c.loop-child.child-index _ c.loop-child-test.true c.child-item.is) in
    let rest = rw more at c.loop-child.invariant.rest in
    rw c.weight-position.ensures record {
      begun = omega (arith, c.loop-child.invariant.begun);
      rest = omega (arith, rest);
      long = c.shift-flag.ensures.len ∙ c.loop-child.invariant.long;
      walk = λ new y q. c.loop-child.invariant.walk new y (rw more (Shifts-cat _ _ _ _ _ _ _ _ _ _ _ (omega (arith, rest)) c.shift-flag.ensures.shifts q));
    }

pub shift_row-returns : goal.shift_row-returns
shift_row-returns t c =
    let done = cores_done c.args.children.now c.loop-child.child-index c.loop-child-test.false in
    let rest = rw done at c.loop-child.invariant.rest in
    record {
      shifts = c.loop-child.invariant.walk c.loop-child.row c.loop-child.flag (rw done (Shifts-empty _ _ _ _ _));
      len = c.loop-child.invariant.long;
    }

pub shift_any-shift-out-requires : goal.shift_any-shift-out-requires
shift_any-shift-out-requires t c =
    let more = ap alt_all (cores_more c.args.children.now c.loop-child.child-index _ c.loop-child-test.true c.child-item.is) in
    let rest = rw more at c.loop-child.invariant.rest in (
      search (rules, the_lemmas),
      (
        measured_at c.args.children.now c.loop-child.child-index _ c.requires.measured c.loop-child-test.true c.child-item.is,
        omega (arith, rest, c.requires.within),
      ),
    )

pub shift_any-loop-child-preserved : goal.shift_any-loop-child-preserved
shift_any-loop-child-preserved t c =
    let more = ap alt_all (cores_more c.args.children.now c.loop-child.child-index _ c.loop-child-test.true c.child-item.is) in
    let rest = rw more at c.loop-child.invariant.rest in
    rw c.weight-position.ensures record {
      begun = omega (arith, c.loop-child.invariant.begun);
      rest = omega (arith, rest);
      long = c.shift-out.ensures.len ∙ c.loop-child.invariant.long;
      walk = λ new y q. rw (← or_again c.loop-child.found c.shift-out.result y)
          (c.loop-child.invariant.walk new (c.shift-out.result || y)
          (rw more (Shifts-alt _ _ _ _ _ _ _ _ _ _ _ (omega (arith, rest)) c.shift-out.ensures.shifts q)));
    }

pub shift_any-returns : goal.shift_any-returns
shift_any-returns t c =
    let done = cores_done c.args.children.now c.loop-child.child-index c.loop-child-test.false in
    let rest = rw done at c.loop-child.invariant.rest in
    record {
      shifts = rw (← or_none c.loop-child.found) (c.loop-child.invariant.walk c.loop-child.row false (rw done (Shifts-none _ _ _ _ _)));
      len = c.loop-child.invariant.long;
    }

pub shift_copies_of-shift-flag-requires : goal.shift_copies_of-shift-flag-requires
shift_copies_of-shift-flag-requires t c =
    let more = copies_more (core_of c.args.child.now) c.args.count c.loop.counter c.loop-test.true in
    let rest = rw more at c.loop.invariant.rest in (
      search (rules, the_lemmas),
      (
        c.requires.measured,
        omega (arith, rest, c.requires.within),
      ),
    )

pub shift_copies_of-overflow_add-position : goal.shift_copies_of-overflow_add-position
shift_copies_of-overflow_add-position t c =
    let more = copies_more (core_of c.args.child.now) c.args.count c.loop.counter c.loop-test.true in
    let rest = rw more at c.loop.invariant.rest in
    omega (arith, rest, c.requires.within, c.weight-weight.ensures, c.len-width.ensures)

pub shift_copies_of-loop-preserved : goal.shift_copies_of-loop-preserved
shift_copies_of-loop-preserved t c =
    let more = copies_more (core_of c.args.child.now) c.args.count c.loop.counter c.loop-test.true in
    let mores = up_to_more (core_of c.args.child.now) c.args.count c.loop.counter c.loop-test.true in
    let rest = rw more at c.loop.invariant.rest in
    rw c.weight-weight.ensures record {
      begun = omega (arith, c.loop.invariant.begun);
      rest = omega (arith, rest);
      long = c.shift-flag.ensures.len ∙ c.loop.invariant.long;
      walk = λ new y q. c.loop.invariant.walk new y (rw more (Shifts-cat _ _ _ _ _ _ _ _ _ _ _ (omega (arith, rest)) c.shift-flag.ensures.shifts q));
      front = λ new y q. rw (← or_again c.loop.found c.loop.flag y)
          (c.loop.invariant.front new (c.loop.flag || y)
          (rw mores (Shifts-front _ _ _ _ _ _ _ _ _ _ _ (omega (arith, rest)) c.shift-flag.ensures.shifts q)));
    }

pub shift_copies_of-returns : goal.shift_copies_of-returns
shift_copies_of-returns t c =
    let done = copies_done (core_of c.args.child.now) c.args.count c.loop.counter c.loop-test.false in
    let dones = up_to_done (core_of c.args.child.now) c.args.count c.loop.counter c.loop-test.false in
    let rest = rw done at c.loop.invariant.rest in
    record {
      all = c.loop.invariant.walk c.loop.row c.loop.flag (rw done (Shifts-empty _ _ _ _ _));
      any = c.loop.invariant.front c.loop.row c.loop.flag (rw dones (Shifts-empty _ _ _ _ _));
      len = c.loop.invariant.long;
    }

pub shift_repeat-overflow_mul-position : goal.shift_repeat-overflow_mul-position
shift_repeat-overflow_mul-position t c =
    let width = rw c.in-Bounded.is at c.requires.within in
    rw c.weight.ensures (omega (arith, width, c.len-width.ensures, weight-copies_of (core_of c.args.child.now) c.in-Bounded.needed))

pub shift_repeat-overflow_add-position : goal.shift_repeat-overflow_add-position
shift_repeat-overflow_add-position t c =
    let width = rw c.in-Bounded.is at c.requires.within in
    rw c.weight.ensures (omega (arith, width, c.len-width.ensures, weight-copies_of (core_of c.args.child.now) c.in-Bounded.needed))

pub shift_repeat-shift_copies_of-out-requires : goal.shift_repeat-shift_copies_of-out-requires
shift_repeat-shift_copies_of-out-requires t c =
    let next = position_past (core_of c.args.child.now) c.in-Bounded.needed c.args.at _ c.weight.ensures in
    let same = weight-same (core_of c.args.child.now) c.in-Bounded.more in
    let width = rw c.in-Bounded.is at c.requires.within in (
      search (rules, the_lemmas),
      (
        c.requires.measured,
        rw next (omega (arith, width, same, c.shift_copies_of-past.ensures.len)),
      ),
    )

pub shift_repeat-returns-in-Bounded : goal.shift_repeat-returns-in-Bounded
shift_repeat-returns-in-Bounded t c =
    let next = position_past (core_of c.args.child.now) c.in-Bounded.needed c.args.at _ c.weight.ensures in
    let width = rw c.in-Bounded.is at c.requires.within in
    let shifts = rw next at c.shift_copies_of-out.ensures.any in
    record {
      shifts = rw c.in-Bounded.is (Shifts-cat _ _ _ _ _ _ _ _ _ _ _ (omega (arith, width)) c.shift_copies_of-past.ensures.all shifts);
      len = c.shift_copies_of-out.ensures.len ∙ c.shift_copies_of-past.ensures.len;
    }

pub shift_repeat-overflow_mul-position-in-Unbounded : goal.shift_repeat-overflow_mul-position-in-Unbounded
shift_repeat-overflow_mul-position-in-Unbounded t c =
    let width = rw c.in-Unbounded.is at c.requires.within in
    rw c.weight-in-Unbounded.ensures (omega (arith, width, c.len-width.ensures, weight-copies_of (core_of c.args.child.now) c.in-Unbounded.before))

pub shift_repeat-overflow_add-position-in-Unbounded : goal.shift_repeat-overflow_add-position-in-Unbounded
shift_repeat-overflow_add-position-in-Unbounded t c =
    let width = rw c.in-Unbounded.is at c.requires.within in
    rw c.weight-in-Unbounded.ensures (omega (arith, width, c.len-width.ensures, weight-copies_of (core_of c.args.child.now) c.in-Unbounded.before))

pub shift_repeat-shift_plus-requires : goal.shift_repeat-shift_plus-requires
shift_repeat-shift_plus-requires t c =
    let next = position_past (core_of c.args.child.now) c.in-Unbounded.before c.args.at _ c.weight-in-Unbounded.ensures in
    let width = rw c.in-Unbounded.is at c.requires.within in (
      search (rules, the_lemmas),
      (
        c.requires.measured,
        rw next (omega (arith, width, c.shift_copies_of-past-in-Unbounded.ensures.len)),
      ),
    )

pub shift_repeat-returns-in-Unbounded : goal.shift_repeat-returns-in-Unbounded
shift_repeat-returns-in-Unbounded t c =
    let next = position_past (core_of c.args.child.now) c.in-Unbounded.before c.args.at _ c.weight-in-Unbounded.ensures in
    let width = rw c.in-Unbounded.is at c.requires.within in
    let shifts = rw next at c.shift_plus.ensures.shifts in
    record {
      shifts = rw c.in-Unbounded.is (Shifts-cat _ _ _ _ _ _ _ _ _ _ _ (omega (arith, width)) c.shift_copies_of-past-in-Unbounded.ensures.all shifts);
      len = c.shift_plus.ensures.len ∙ c.shift_copies_of-past-in-Unbounded.ensures.len;
    }
