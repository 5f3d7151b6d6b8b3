use Rattle.lic_vars.proofs.ValueLemmas.{same-values}
use Rattle.lic_vars.proofs.laws.equal_records_give_equal_values.Goals as goal

pub returns : goal.returns
returns c = same-values
