use Rattle.std.proofs.Common.{◌≤◌, length, ap, arith}
use Rattle.lic_report.proofs.PlainLemmas.{plain_later}
use Rattle.lic_report.proofs.token_lines.TokenLines.add_short.Goals as goal

pub invariant_of-self : goal.invariant_of-self
invariant_of-self c =
    let tokens = c.self.inside.text.now.tokens in
    let within : c.write_lines-end.result.1 ≤ length tokens = omega (arith, c.write_lines-end.ensures.order.1, ap length c.in-Some.ensures.tokens) in
    (within, plain_later tokens c.self.inside.added c.write_lines-end.result.1 c.self.inside.plain_to c.self.invariant.1 c.write_lines-end.ensures.order.0 within)
