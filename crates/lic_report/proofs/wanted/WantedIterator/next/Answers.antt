use Rattle.std.proofs.Common.{rules}
use Rattle.lic_report.proofs.LimitLemmas.{limited_step}
use Rattle.lic_report.proofs.wanted.WantedIterator.next.Goals as goal

pub returns-in-Some-clause-steps : goal.returns-in-Some-clause-steps
returns-in-Some-clause-steps c =
    limited_step c.next.result c.args.self.now.left c.in-Some.n c.args.self.now.matches c.next.new.self (search rules) (search rules)
    c.next.ensures.steps
