use Rattle.lic_kind.proofs.WordFoldings.{spell-folding, spell-ascii}
use Rattle.lic_kind.proofs.laws.words_are_folded.Goals as goal

pub returns : goal.returns
returns c = record { folding = spell-folding; ascii = spell-ascii }
