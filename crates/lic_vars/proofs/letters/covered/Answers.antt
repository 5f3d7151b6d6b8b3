use Rattle.lic_vars.proofs.ValueLemmas.{covered-ends}
use Rattle.lic_vars.proofs.letters.covered.Goals as goal

pub returns : goal.returns
returns c = covered-ends c.args.letters.now _ _ c.in_ok-first.ensures.value c.in_ok-last.ensures.value
