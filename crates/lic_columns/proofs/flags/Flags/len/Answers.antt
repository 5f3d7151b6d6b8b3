use Rattle.std.proofs.Common.{length, ap, sym, ◌∙◌}
use Rattle.lic_columns.proofs.FlagLemmas.{length-flags_in}
use Rattle.lic_columns.proofs.flags.Flags.len.Goals as goal

pub returns : goal.returns
returns c = sym (length-flags_in c.self.inside.len c.self.inside.columns.items) ∙ ap length c.self.view_is
