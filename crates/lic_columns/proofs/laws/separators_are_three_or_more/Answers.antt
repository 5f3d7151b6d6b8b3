use Rattle.lic_columns.proofs.TextLemmas.{in_separator}
use Rattle.lic_columns.proofs.laws.separators_are_three_or_more.Goals as goal

pub returns : goal.returns
returns c = in_separator
