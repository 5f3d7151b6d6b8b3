use Rattle.std.proofs.Common.{sym, subst}
use Rattle.lic_norm.specs.Sources.{AreSourceChars}
use Rattle.lic_norm.proofs.AnyBytes.{AreSourceChars-same, source_of-AreSourceChars}
use Rattle.lic_norm.proofs.laws.source_characters_are_read_from_the_front.Goals as goal

pub returns : goal.returns
returns c = λ at bytes source. (
  λ read. AreSourceChars-same read,
  λ same. subst (AreSourceChars at bytes) (sym same) (source_of-AreSourceChars at bytes),
)
