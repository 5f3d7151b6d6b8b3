use Rattle.lic_columns.proofs.SimpleLines.{simple_lines_are}
use Rattle.lic_columns.proofs.laws.spans_of_simple_lines_are_first_tokens.Goals as goal

pub returns : goal.returns
returns c = simple_lines_are
