use Rattle.std.proofs.Common.{◌≡◌, ◌+◌, ◌/◌, length, ap, sym, ◌∙◌, rules}
use Rattle.lic_columns.proofs.FlagLemmas.{length-flags_in}
use Rattle.lic_columns.proofs.flags.Flags.count.Goals as goal

pub returns : goal.returns
returns c =
    let size : c.self.inside.len ≡ length c.args.self.now = sym (length-flags_in c.self.inside.len c.self.inside.columns.items) ∙ ap length c.self.view_is in
    let columns : c.len.result ≡ length c.self.inside.columns.items = search rules in
    columns ∙ c.self.invariant.0 ∙ ap (λ n. (n + 63) / 64) size
