use Rattle.std.proofs.Common.{◌≡◌, ◌==◌, ◌||◌, ap, vec_len, length, sym, ◌∙◌, arith}
use Rattle.lic_marks.specs.Marks.{is_nullable}
use Rattle.lic_marks.specs.Nodes.{core_of}
use Rattle.lic_marks.proofs.Nodes.{core_of-Letters, core_of-Copies, core_of-UpTo, core_of-Repeat}
use Rattle.lic_marks.proofs.LetterSteps.{nullable-copies}
use Rattle.lic_marks.proofs.Built.{nullable-letters, nullable-any_prefix}
use Rattle.lic_marks.proofs.Counted.{nullable-bounded, nullable-unbounded}
use Rattle.lic_marks.proofs.build.+is_nullable.Goals as goal

pub is_nullable-returns-in-Letters : goal.is_nullable-returns-in-Letters
is_nullable-returns-in-Letters t c =
    let size : vec_len c.in-Letters.text ≡ length c.in-Letters.text.items = omega (arith, c.in-Letters.text.ok) in
    c.is_empty.ensures ∙ rw (c.in-Letters.is, core_of-Letters) (nullable-letters c.in-Letters.text.items _ size)

pub is_nullable-returns-in-Copies : goal.is_nullable-returns-in-Copies
is_nullable-returns-in-Copies t c = rw (c.in-Copies.is, core_of-Copies) (nullable-copies _ c.in-Copies.count)

pub is_nullable-returns-in-UpTo : goal.is_nullable-returns-in-UpTo
is_nullable-returns-in-UpTo t c = rw (c.in-UpTo.is, core_of-UpTo) (sym (nullable-any_prefix _))

pub is_nullable-returns-in-Bounded : goal.is_nullable-returns-in-Bounded
is_nullable-returns-in-Bounded t c =
    let child = c.is_nullable.ensures ∙ ap (λ n. is_nullable (core_of n)) c.deref-in-Bounded.ensures in
    rw (c.in-Repeat.is, core_of-Repeat, c.in-Bounded.is)
    (ap (λ b. (c.in-Bounded.needed == 0) || b) child ∙ nullable-bounded (core_of c.in-Repeat.child.value) c.in-Bounded.needed c.in-Bounded.more)

pub is_nullable-returns-in-Unbounded : goal.is_nullable-returns-in-Unbounded
is_nullable-returns-in-Unbounded t c =
    let child = c.is_nullable-in-Unbounded.ensures ∙ ap (λ n. is_nullable (core_of n)) c.deref-in-Unbounded.ensures in
    rw (c.in-Repeat.is, core_of-Repeat, c.in-Unbounded.is) (child ∙ sym (nullable-unbounded (core_of c.in-Repeat.child.value) c.in-Unbounded.before))
