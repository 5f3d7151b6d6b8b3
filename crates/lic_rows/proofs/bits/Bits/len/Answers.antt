use Rattle.std.proofs.Common.{◌∙◌, length, ap, sym}
use Rattle.lic_rows.proofs.Flags.{length-flags}
use Rattle.lic_rows.proofs.bits.Bits.len.Goals as goal

pub returns : goal.returns
returns c = sym (length-flags c.self.inside.len c.self.inside.words.items) ∙ ap length c.self.view_is
