use Rattle.lic_filters.proofs.FilterLaws.{Contains-tight_of, Contains-outer_of}
use Rattle.lic_filters.proofs.laws.outer_ones_are_tight.Goals as goal

pub returns-clause-outer : goal.returns-clause-outer
returns-clause-outer c = Contains-outer_of

pub returns-clause-tight : goal.returns-clause-tight
returns-clause-tight c = Contains-tight_of
