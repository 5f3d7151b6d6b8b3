use Rattle.lic_columns.proofs.EdgesOfLines.{lines_tokens_are}
use Rattle.lic_columns.proofs.laws.edges_of_lines_are_blanks.Goals as goal

pub returns : goal.returns
returns c = lines_tokens_are
