use Rattle.std.proofs.Common.{◌≡◌, ◌∙◌, length, ap, sym, arith}
use Rattle.lic_rows.specs.Bits.{has, flag_at}
use Rattle.lic_rows.proofs.Flags.{length-flags, flag-inside}
use Rattle.lic_rows.proofs.bits.Bits.get.Goals as goal

pub get-requires : goal.get-requires
get-requires c =
    let size : c.self.inside.len ≡ length c.args.self.now = sym (length-flags c.self.inside.len c.self.inside.words.items) ∙ ap length c.self.view_is in
    omega (arith, size, c.requires, c.self.invariant.0, ap length c.deref.ensures.value)

pub returns : goal.returns
returns c =
    let size : c.self.inside.len ≡ length c.args.self.now = sym (length-flags c.self.inside.len c.self.inside.words.items) ∙ ap length c.self.view_is in
    c.get.ensures ∙ ap (λ row. has row c.args.at) c.deref.ensures.value
    ∙ sym (flag-inside c.self.inside.len c.self.inside.words.items c.args.at (omega (arith, size, c.requires)))
    ∙ ap (λ row. flag_at row c.args.at) c.self.view_is
