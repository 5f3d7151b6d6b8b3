use Rattle.lic_markup.proofs.FaultSpelled.{reading-IsFaultOf}
use Rattle.lic_markup.proofs.laws.a_template_is_refused_by_the_fault_that_decides.Goals as goal

pub returns : goal.returns
returns c = reading-IsFaultOf
