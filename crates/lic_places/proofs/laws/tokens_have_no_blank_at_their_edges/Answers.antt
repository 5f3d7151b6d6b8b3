-- The edges of tokens.
use Rattle.lic_places.proofs.TokenPlaces.{token-starts, token-ends}
use Rattle.lic_places.proofs.laws.tokens_have_no_blank_at_their_edges.Goals as goal

pub returns-clause-start : goal.returns-clause-start
returns-clause-start c = token-starts

pub returns-clause-end : goal.returns-clause-end
returns-clause-end c = token-ends
