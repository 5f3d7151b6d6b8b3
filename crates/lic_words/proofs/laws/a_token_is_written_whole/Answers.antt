use Rattle.lic_words.proofs.Tokens.{Spells-whole}
use Rattle.lic_words.proofs.laws.a_token_is_written_whole.Goals as goal

pub returns : goal.returns
returns c = λ t w h. Spells-whole t w h
