use Rattle.lic_columns.proofs.WideMarks.{simple_tokens_are}
use Rattle.lic_columns.proofs.laws.spans_of_simple_texts_are_first_tokens.Goals as goal

pub returns : goal.returns
returns c = simple_tokens_are
