use Rattle.std.proofs.Common.{◌≤◌, length, ap, arith}
use Rattle.lic_view.proofs.ViewSpans.{within-one}
use Rattle.lic_view.proofs.sets.singles.end_of.Goals as goal

pub overflow_add-result : goal.overflow_add-result
overflow_add-result c =
    let span = c.args.span in
    let order : span.low ≤ span.high = c.requires.ordered 0 span (omega arith) in
    let high = within-one c.args.view.now span span.high c.requires order (omega arith) in
    let same = ap length c.bytes-length.ensures in
    omega (arith, high, same, c.bytes-length.type_inv.0)
