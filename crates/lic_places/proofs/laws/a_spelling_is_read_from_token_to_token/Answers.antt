-- A word that spells tokens is read from the first of them to the last.
use Rattle.lic_places.proofs.TieRange.{spelling_is_read}
use Rattle.lic_places.proofs.laws.a_spelling_is_read_from_token_to_token.Goals as goal

pub returns : goal.returns
returns c = λ tokens first last w known order within. spelling_is_read tokens first last w known order within
