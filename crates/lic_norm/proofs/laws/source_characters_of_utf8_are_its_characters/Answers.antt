use Rattle.lic_norm.proofs.AnyBytes.{source_of-utf8}
use Rattle.lic_norm.proofs.laws.source_characters_of_utf8_are_its_characters.Goals as goal

pub returns : goal.returns
returns c = source_of-utf8
