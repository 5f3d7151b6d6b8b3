use Rattle.lic_filters.proofs.FilterLaws.{outer_around}
use Rattle.lic_filters.proofs.laws.an_outer_one_holds_each_tight_one.Goals as goal

pub returns : goal.returns
returns c = outer_around
