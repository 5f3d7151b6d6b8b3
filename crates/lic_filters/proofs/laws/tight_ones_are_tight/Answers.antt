use Rattle.lic_filters.proofs.FilterLaws.{tight_of-tight_of}
use Rattle.lic_filters.proofs.laws.tight_ones_are_tight.Goals as goal

pub returns : goal.returns
returns c = tight_of-tight_of
