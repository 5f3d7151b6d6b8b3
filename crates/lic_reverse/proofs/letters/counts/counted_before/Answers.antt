-- The spans themselves come in for the empty word.
use Rattle.std.proofs.Common.{◌≡◌, ◌++◌, sym, subst, arith}
use Rattle.lic_view.specs.Backward.{IsBack}
use Rattle.lic_reverse.proofs.CountNumbers.{back-from_none}
use Rattle.lic_reverse.proofs.CountWords.{Counted}
use Rattle.lic_reverse.proofs.letters.counts.counted_before.Goals as goal

pub returns-then-min-gt0 : goal.returns-then-min-gt0
returns-then-min-gt0 c =
    let one : 1 ≡ c.args.min = omega (arith, c.if-min-gt0.true, c.requires.few) in
    subst (λ m. IsBack c.args.keep c.args.view.now (Counted m c.args.max) c.args.spans.items c.in_ok-found.found.items) one
    (subst (λ l. IsBack c.args.keep c.args.view.now (Counted 1 c.args.max) l c.in_ok-found.found.items) c.deref-2.ensures.value c.in_ok-found.ensures)

pub returns : goal.returns
returns c =
    let spans = c.args.spans.items in
    let none : 0 ≡ c.args.min = omega (arith, c.if-min-gt0.false) in
    let some = subst (λ l. IsBack c.args.keep c.args.view.now (Counted 1 c.args.max) l c.in_ok-found.found.items) c.deref-2.ensures.value c.in_ok-found.ensures in
    subst (λ l. IsBack c.args.keep c.args.view.now (Counted c.args.min c.args.max) spans l) (sym c.in_ok-append.ensures.items)
    (subst (λ m. IsBack c.args.keep c.args.view.now (Counted m c.args.max) spans (spans ++ c.in_ok-found.found.items)) none
    (back-from_none c.args.keep c.args.view.now c.args.max spans c.in_ok-found.found.items c.requires.placed some))
