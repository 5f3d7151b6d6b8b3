use Rattle.lic_columns.proofs.EdgeLemmas.{line_tokens_are}
use Rattle.lic_columns.proofs.laws.edges_are_blanks.Goals as goal

pub returns : goal.returns
returns c = line_tokens_are
