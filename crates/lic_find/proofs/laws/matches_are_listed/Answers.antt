use Rattle.lic_find.proofs.Listed.{AreMatches-listed}
use Rattle.lic_find.proofs.laws.matches_are_listed.Goals as goal

pub returns : goal.returns
returns c = AreMatches-listed c.whether_an_expression_describes_is_decided.ensures
