use Rattle.lic_find.proofs.Matching.{AreMatches-unique}
use Rattle.lic_find.proofs.laws.matches_are_one_list.Goals as goal

pub returns : goal.returns
returns c = AreMatches-unique
