-- The whole spelling.
use Rattle.lic_places.proofs.TokenPlaces.{spelling-utf8, blank-alone}
use Rattle.lic_places.proofs.laws.spellings_are_in_utf8.Goals as goal

pub returns-clause-utf8 : goal.returns-clause-utf8
returns-clause-utf8 c = spelling-utf8

pub returns-clause-blanks : goal.returns-clause-blanks
returns-clause-blanks c = blank-alone
