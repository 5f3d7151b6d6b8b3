-- The places of tokens.
use Rattle.lic_places.proofs.TokenPlaces.{place_start-first, tokens-next, place_end-order, place_start-text, place_end-last}
use Rattle.lic_places.proofs.laws.tokens_follow_one_another.Goals as goal

pub returns-clause-first : goal.returns-clause-first
returns-clause-first c = place_start-first

pub returns-clause-next : goal.returns-clause-next
returns-clause-next c = λ tokens i are within. tokens-next tokens i within

pub returns-clause-order : goal.returns-clause-order
returns-clause-order c = place_end-order

pub returns-clause-text : goal.returns-clause-text
returns-clause-text c = place_start-text

pub returns-clause-last : goal.returns-clause-last
returns-clause-last c = place_end-last
