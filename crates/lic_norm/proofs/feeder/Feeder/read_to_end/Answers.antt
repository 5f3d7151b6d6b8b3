use Rattle.std.proofs.Common.{◌≤◌, ◌++◌, [], Err, length, refl, sym, ap, subst, ◌∙◌, arith, append-nil, length-append}
use Rattle.std.proofs.KnownBytes.{Consumes-nil, Consumes-trans}
use Rattle.lic_norm.specs.Refusal.{max_bytes}
use Rattle.lic_norm.proofs.FromInput.{fault_cases}
use Rattle.lic_norm.proofs.Refused.{accepted, accepted_short}
use Rattle.lic_norm.proofs.feeder.Feeder.read_to_end.Goals as goal

pub loop-init : goal.loop-init
loop-init g c =
    let bytes = c.args.self.now.bytes in
    record {
      read = ([], Consumes-nil (g.R.Source.left c.args.input.now), sym (append-nil bytes));
      sound = refl;
      accepted = accepted bytes (subst (λ l. length l ≤ max_bytes) (ap (λ v. v.bytes) c.self.view_is) (c.self.invariant.1 c.in_default.is).1);
      unrefused = sym (ap (λ v. v.refused) c.self.view_is) ∙ c.in_default.is;
      words = refl;
      rules = refl;
    }

pub returns-in_err-feed_from-clause-most : goal.returns-in_err-feed_from-clause-most
returns-in_err-feed_from-clause-most g c = λ unrefused.
    let known = c.loop.invariant in
    let old = c.args.self.now.bytes in
    let fed = known.read.0 in
    let all = ap length known.read.2 in
    fault_cases c.in_err-feed_from.field-0.0
    (λ is. (
      fed ++ [],
      Consumes-trans _ _ _ fed [] known.read.1 (c.in_err-feed_from.ensures.none (ap Err is)),
      omega (arith, length-append old (fed ++ []), length-append fed [], length-append old fed, all, accepted_short c.loop.self.bytes known.accepted),
    ))
    (λ refusal is.
    let refused = c.in_err-feed_from.ensures.refused refusal (ap Err is) in
    let more = refused.0 in (
      fed ++ more,
      Consumes-trans _ _ _ fed more known.read.1 refused.1,
      omega (arith, length-append old (fed ++ more), length-append fed more, length-append old fed, all, length-append c.loop.self.bytes more, refused.2),
    ))

pub loop-smaller : goal.loop-smaller
loop-smaller g c =
    let known = c.loop.invariant in
    let fed = c.in_ok-feed_from.ensures.fed in
    omega (arith, fed.2, ap length fed.3, length-append c.loop.self.bytes fed.0, c.if-branch-gt0.true, accepted_short c.loop.self.bytes known.accepted)

pub returns-clause-most : goal.returns-clause-most
returns-clause-most g c = λ unrefused.
    let known = c.loop.invariant in
    let old = c.args.self.now.bytes in
    let before = known.read.0 in
    let fed = c.in_ok-feed_from.ensures.fed in
    let more = fed.0 in (
      before ++ more,
      Consumes-trans _ _ _ before more known.read.1 fed.1,
      omega (
        arith,
        length-append old (before ++ more),
        length-append before more,
        length-append old before,
        ap length known.read.2,
        length-append c.loop.self.bytes more,
        ap length fed.3,
        accepted_short c.feed_from.new.self.bytes c.in_ok-feed_from.ensures.accepted,
      ),
    )
