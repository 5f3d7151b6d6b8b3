use Rattle.lic_words.proofs.Turned.{reversed_tokens-IsDescribed, IsDescribed-reversed_tokens}
use Rattle.lic_words.proofs.laws.lists_are_read_from_the_end.Goals as goal

pub returns : goal.returns
returns c = λ e ts. (reversed_tokens-IsDescribed e ts, IsDescribed-reversed_tokens e ts)
