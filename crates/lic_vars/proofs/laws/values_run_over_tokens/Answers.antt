use Rattle.lic_vars.proofs.RunLemmas.{values-run}
use Rattle.lic_vars.proofs.laws.values_run_over_tokens.Goals as goal

pub returns : goal.returns
returns c = values-run
