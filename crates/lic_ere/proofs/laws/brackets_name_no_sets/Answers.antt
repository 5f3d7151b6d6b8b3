use Rattle.lic_ere.proofs.BracketSpelling.{bracket_names_none}
use Rattle.lic_ere.proofs.laws.brackets_name_no_sets.Goals as goal

pub returns : goal.returns
returns c = λ x y cs rest b e others. bracket_names_none x y cs rest b e others
