-- Of the least last tokens, and of each.
use Rattle.std.proofs.Common.{◌≤◌, length, ap, arith, get_or, refl, subst}
use Rattle.lic_view.specs.Backward.{IsEach}
use Rattle.lic_view.proofs.SpanLoops.{placed-one}
use Rattle.lic_view.proofs.ViewSpans.{within-one}
use Rattle.lic_view.proofs.sets.kept.kept.Goals as goal

pub with_least_last-requires-clause-bounded : goal.with_least_last-requires-clause-bounded
with_least_last-requires-clause-bounded c = λ k d below.
    let span = get_or c.args.spans.items k d in
    let order : span.low ≤ span.high = c.requires.ordered k d below in
    let within = within-one c.args.view.now span span.high (placed-one c.args.view.now c.args.spans.items k d below c.requires) order (omega arith) in
    let same = ap length c.bytes-length.ensures in
    omega (arith, within, same, c.bytes-length.type_inv.0, c.bytes-length.type_inv.1)

pub returns-in_ok-with_least_last-in-Least : goal.returns-in_ok-with_least_last-in-Least
returns-in_ok-with_least_last-in-Least c =
    let least = c.in_ok-with_least_last-in-Least in
    record {
      ordered = least.ensures.ordered;
      sound = least.ensures.sound;
      kept = λ kind number last holds.
          let found = least.ensures.least kind number last holds in
          (found.0, found.1, λ each. absurd (subst IsEach c.in-Least.is each), found.2);
    }

pub returns-in_ok-check-in-Each : goal.returns-in_ok-check-in-Each
returns-in_ok-check-in-Each c =
    let each = c.in_ok-each-in-Each in
    record {
      ordered = each.ensures.ordered;
      sound = λ kind number last holds. (each.ensures.same kind number last).0 holds;
      kept = λ kind number last holds. (last, omega arith, λ kept. refl, (each.ensures.same kind number last).1 holds);
    }
