use Rattle.lic_columns.proofs.TextLemmas.{IsText-known_of, IsText-blanked}
use Rattle.lic_columns.proofs.laws.bytes_are_a_text.Goals as goal

pub returns-clause-read : goal.returns-clause-read
returns-clause-read c = IsText-known_of

pub returns-clause-blanked : goal.returns-clause-blanked
returns-clause-blanked c = IsText-blanked
