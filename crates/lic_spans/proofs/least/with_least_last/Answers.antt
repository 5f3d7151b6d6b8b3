-- What is known of the spans is known of those that are kept, in their order.
use Rattle.std.proofs.Common.{◌≤◌, ◌<◌, subst, sym, rules, arith}
use Rattle.std.proofs.lemmas.Result.{IfOk-weaker}
use Rattle.std.specs.List.{All, AllPairs}
use Rattle.lic_spans.specs.Spans.{FitsKind, AreApart, BeginsBefore, Holds}
use Rattle.lic_spans.specs.Sweeps.{HasLess}
use Rattle.lic_spans.proofs.Members.{Holds-among}
use Rattle.lic_spans.proofs.Sorting.{All-among}
use Rattle.lic_spans.proofs.least.with_least_last.Goals as goal

pub are_apart-requires : goal.are_apart-requires
are_apart-requires c =
    subst (All (λ s. s.low ≤ s.high)) (sym c.deref.ensures.value)
    (All-among (λ s. s.low ≤ s.high) c.args.spans.items c.sort.new.spans.items c.in_ok-sort.ensures.sound c.requires.ordered)

pub returns-then-are_apart-clause-apart : goal.returns-then-are_apart-clause-apart
returns-then-are_apart-clause-apart c = subst AreApart c.deref.ensures.value ((c.if-are_apart.ensures).0 (search rules))

pub returns-then-are_apart-clause-ordered : goal.returns-then-are_apart-clause-ordered
returns-then-are_apart-clause-ordered c =
    All-among (λ s. s.low ≤ s.high) c.args.spans.items c.sort.new.spans.items c.in_ok-sort.ensures.sound c.requires.ordered

pub swept-requires-clause-ordered : goal.swept-requires-clause-ordered
swept-requires-clause-ordered c =
    subst (All (λ s. s.low ≤ s.high)) (sym c.deref-2.ensures.value)
    (All-among (λ s. s.low ≤ s.high) c.args.spans.items c.sort.new.spans.items c.in_ok-sort.ensures.sound c.requires.ordered)

pub swept-requires-clause-bounded : goal.swept-requires-clause-bounded
swept-requires-clause-bounded c =
    subst (All (λ s. s.high < 18446744073709551615)) (sym c.deref-2.ensures.value)
    (All-among (λ s. s.high < 18446744073709551615) c.args.spans.items c.sort.new.spans.items c.in_ok-sort.ensures.sound c.requires.bounded)

pub swept-requires-clause-sorted : goal.swept-requires-clause-sorted
swept-requires-clause-sorted c = subst (AllPairs BeginsBefore) (sym c.deref-2.ensures.value) c.in_ok-sort.ensures.sorted

pub returns-clause-sound : goal.returns-clause-sound
returns-clause-sound c =
    IfOk-weaker c.swept.result _ _
    (λ least h. λ k p l new.
    Holds-among c.sort.new.spans.items c.args.spans.items c.in_ok-sort.ensures.sound k p l
    (subst (λ xs. Holds xs k p l) c.deref-2.ensures.value (h.sound k p l new))) c.swept.ensures.least

pub returns-clause-least : goal.returns-clause-least
returns-clause-least c =
    IfOk-weaker c.swept.result _ _
    (λ least h. λ k p l old.
    let kept : HasLess c.sort.new.spans.items k p l = c.in_ok-sort.ensures.least k p l old in
    let less = h.done k p kept.0 (subst (λ xs. Holds xs k p kept.0) (sym c.deref-2.ensures.value) kept.2) in
    (less.0, omega arith, less.2)) c.swept.ensures.least

pub returns-then-are_apart-clause-fits : goal.returns-then-are_apart-clause-fits
returns-then-are_apart-clause-fits c = λ all. All-among FitsKind c.args.spans.items c.sort.new.spans.items c.in_ok-sort.ensures.sound all

pub returns-clause-fits : goal.returns-clause-fits
returns-clause-fits c = λ all.
    IfOk-weaker c.swept.result _ _
    (λ least h. h.fits (subst (All FitsKind) (sym c.deref-2.ensures.value) (All-among FitsKind c.args.spans.items c.sort.new.spans.items c.in_ok-sort.ensures.sound all)))
    c.swept.ensures.least
