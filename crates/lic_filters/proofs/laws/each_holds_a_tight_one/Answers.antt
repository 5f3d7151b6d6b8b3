use Rattle.lic_filters.proofs.FilterLaws.{tight_within}
use Rattle.lic_filters.proofs.laws.each_holds_a_tight_one.Goals as goal

pub returns : goal.returns
returns c = tight_within
