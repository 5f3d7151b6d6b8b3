use Rattle.lic_filters.proofs.FilterLaws.{outer_of-outer_of}
use Rattle.lic_filters.proofs.laws.outer_ones_are_outer.Goals as goal

pub returns : goal.returns
returns c = outer_of-outer_of
