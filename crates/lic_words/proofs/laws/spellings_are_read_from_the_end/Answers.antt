use Rattle.lic_words.proofs.Turned.{Spells-reversed_tokens, reversed_tokens-Spells}
use Rattle.lic_words.proofs.laws.spellings_are_read_from_the_end.Goals as goal

pub returns : goal.returns
returns c = λ w ts. (reversed_tokens-Spells w ts, Spells-reversed_tokens w ts)
