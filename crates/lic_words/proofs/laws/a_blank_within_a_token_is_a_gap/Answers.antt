use Rattle.lic_words.proofs.Tokens.{Spells-blank}
use Rattle.lic_words.proofs.laws.a_blank_within_a_token_is_a_gap.Goals as goal

pub returns : goal.returns
returns c = λ t u w ts. Spells-blank t u w ts
