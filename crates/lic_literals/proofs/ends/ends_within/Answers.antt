-- One occurrence more, and in the end no other.
use Rattle.std.proofs.Common.{◌+◌, ◌<◌, ◌≤◌, length, sym, subst, arith}
use Rattle.std.specs.Prelude.{◌↔◌, slice_range}
use Rattle.std.specs.List.{Contains}
use Rattle.std.specs.List.Sorted.{IsStrictlyIncreasing}
use Rattle.memchr.specs.Find.{NoneBefore, Nowhere, OccursAt}
use Rattle.lic_literals.proofs.EndsLemmas.{IsEnd, found_more, none_later}
use Rattle.lic_literals.proofs.Rising.{IsStrictlyIncreasing-push}
use Rattle.lic_literals.specs.Ends.{EndsAt}
use Rattle.lic_literals.proofs.ends.ends_within.Goals as goal
use Rattle.lic_literals.proofs.ends.ends_within.Goals.{else-loop-start-test, then-loop-start-test+in_default}

pub loop-start-preserved : goal.loop-start-preserved
loop-start-preserved c =
    let bytes = c.args.bytes.now in
    let literal = c.args.literal.now in
    let start = c.loop-start.start in
    let hay = slice_range bytes start c.args.to in
    let k = c.in-Some.offset in
    let before = c.loop-start.invariant in
    let found : NoneBefore (OccursAt hay literal) 0 (length hay + 1) k × OccursAt hay literal k =
    subst (λ needle. NoneBefore (OccursAt hay needle) 0 (length hay + 1) k × OccursAt hay needle k) c.new-finder.ensures c.in-Some.ensures in
    record {
      low = omega (arith, before.low);
      exact = λ e.
          subst (λ xs. Contains xs e ↔ IsEnd bytes literal c.args.from c.args.to (start + (k + 1) + length literal) e) (sym c.in_ok-push.ensures.items)
          (found_more bytes literal c.args.from c.args.to start c.loop-start.ends.items c.requires.within (omega arith) k before.low before.exact found.0 found.1 e);
      rising =
          subst IsStrictlyIncreasing (sym c.in_ok-push.ensures.items)
          (IsStrictlyIncreasing-push c.loop-start.ends.items (start + k + length literal) before.rising
          (λ x inside. omega (arith, ((before.exact x).0 inside).3)));
    }

pub returns-clause-exact : goal.returns-clause-exact
returns-clause-exact c = λ e.
    let bytes = c.args.bytes.now in
    let literal = c.args.literal.now in
    let start = c.loop-start.start in
    let hay = slice_range bytes start c.args.to in
    let exact = c.loop-start.invariant.exact in
    let late : EndsAt bytes literal e → e ≤ c.args.to → e < start + length literal =
    λ ends high.
    elim c.loop-start-test.branch [
      | else-loop-start-test w ↦ omega (arith, c.requires.some)
      | then-loop-start-test+in_default w ↦
          none_later bytes literal c.args.from c.args.to start c.loop-start.ends.items c.requires.within (omega arith)
          (subst (λ needle. Nowhere (OccursAt hay needle) 0 (length hay + 1)) c.new-finder.ensures w.in_default.ensures) e ends high
    ] in (
      λ inside. let (a, b, d, f) = (exact e).0 inside in (a, b, d),
      λ (a, b, d). (exact e).1 (a, b, d, late d b),
    )
