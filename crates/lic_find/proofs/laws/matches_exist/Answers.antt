use Rattle.lic_find.specs.Listing.{matches_after}
use Rattle.lic_find.proofs.laws.matches_exist.Goals as goal

pub returns : goal.returns
returns c = λ set tokens after. (matches_after set tokens after, c.matches_are_listed.ensures set tokens after)
