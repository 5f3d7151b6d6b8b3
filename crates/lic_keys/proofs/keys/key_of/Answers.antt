-- A template without a text.
use Rattle.std.proofs.Common.{refl, subst}
use Rattle.lic_keys.specs.Required.{HasNoLetters}
use Rattle.lic_keys.proofs.keys.key_of.Goals as goal

pub returns-in-None : goal.returns-in-None
returns-in-None c = (refl, subst HasNoLetters c.parts.ensures c.in-None.ensures)
