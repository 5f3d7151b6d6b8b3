use Rattle.std.proofs.Common.{arith}
use Rattle.lic_report.proofs.PlainLemmas.{plain_part}
use Rattle.lic_report.proofs.token_lines.plain_after.Goals as goal

pub returns-then-end-plain_to : goal.returns-then-end-plain_to
returns-then-end-plain_to c a order plain =
    plain_part c.args.spelled.now a c.args.plain_to c.args.end c.args.plain_to plain order (omega arith)
