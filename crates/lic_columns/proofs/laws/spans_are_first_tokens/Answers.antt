use Rattle.lic_columns.proofs.LineTokens.{ascii_tokens_are}
use Rattle.lic_columns.proofs.laws.spans_are_first_tokens.Goals as goal

pub returns : goal.returns
returns c = ascii_tokens_are
