use Rattle.std.proofs.Common.{◌≡◌, ◌∙◌, length, ap, sym, arith}
use Rattle.std.proofs.lemmas.List.{with_items_is}
use Rattle.lic_rows.proofs.Flags.{length-flags, flags_set}
use Rattle.lic_rows.proofs.bits.Bits.put.Goals as goal

pub put-requires : goal.put-requires
put-requires c =
    let size : c.self.inside.len ≡ length c.args.self.now = sym (length-flags c.self.inside.len c.self.inside.words.items) ∙ ap length c.self.view_is in
    omega (arith, size, c.requires, c.self.invariant.0, ap length c.deref_mut.ensures.value)

pub invariant_of-self : goal.invariant_of-self
invariant_of-self c =
    let size : c.self.inside.len ≡ length c.args.self.now = sym (length-flags c.self.inside.len c.self.inside.words.items) ∙ ap length c.self.view_is in
    let items = with_items_is c.self.inside.words c.put.new.row (omega (arith, c.put.auto.row, c.deref_mut.ensures.len)) in
    let other = rw c.deref_mut.ensures.value at c.put.ensures.other in
    rw items (
      omega (arith, c.put.auto.row, ap length c.deref_mut.ensures.value, c.self.invariant.0),
      λ k past. other k (omega (arith, size, c.requires, past)) ∙ c.self.invariant.1 k past,
    )

pub returns : goal.returns
returns c =
    let size : c.self.inside.len ≡ length c.args.self.now = sym (length-flags c.self.inside.len c.self.inside.words.items) ∙ ap length c.self.view_is in
    let items = with_items_is c.self.inside.words c.put.new.row (omega (arith, c.put.auto.row, c.deref_mut.ensures.len)) in
    let other = rw c.deref_mut.ensures.value at c.put.ensures.other in
    rw (items, ← c.self.view_is)
    (flags_set c.self.inside.len c.self.inside.words.items c.put.new.row c.args.at c.args.is_set (omega (arith, size, c.requires)) c.put.ensures.here other)
