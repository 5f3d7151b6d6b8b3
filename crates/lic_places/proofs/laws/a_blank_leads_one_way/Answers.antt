-- Where a blank of a word leads.
use Rattle.lic_places.proofs.TokenPlaces.{OverBlank-one, OverBlank-twice, OverBlank-order}
use Rattle.lic_places.proofs.laws.a_blank_leads_one_way.Goals as goal

pub returns-clause-one : goal.returns-clause-one
returns-clause-one c = OverBlank-one

pub returns-clause-twice : goal.returns-clause-twice
returns-clause-twice c = OverBlank-twice

pub returns-clause-order : goal.returns-clause-order
returns-clause-order c = λ tokens p q h. (OverBlank-order tokens p q h).0
