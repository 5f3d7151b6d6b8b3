use Rattle.std.proofs.Common.{sym}
use Rattle.std.proofs.lemmas.Str.{IsUtf8-from_is_utf8}
use Rattle.lic_elements.proofs.LocatedLemmas.{text_of-piece}
use Rattle.lic_elements.proofs.piece.Piece.as_str.Goals as goal

pub returns : goal.returns
returns c = sym (text_of-piece c.args.self.offset c.args.self.text.now (IsUtf8-from_is_utf8 c.args.self.text.now c.args.self.utf8))
