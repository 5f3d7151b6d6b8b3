use Rattle.std.proofs.Common.{◌≡◌, ◌∙◌, length, ap, sym, arith}
use Rattle.std.proofs.lemmas.List.{with_items_is}
use Rattle.lic_rows.proofs.Flags.{length-flags, flag-inside, rest_kept, flags_kept}
use Rattle.lic_rows.proofs.bits.Bits.clear.Goals as goal

pub clear-requires-clause-within : goal.clear-requires-clause-within
clear-requires-clause-within c =
    let size : c.self.inside.len ≡ length c.args.self.now = sym (length-flags c.self.inside.len c.self.inside.words.items) ∙ ap length c.self.view_is in
    omega (arith, size, c.requires.within, c.self.invariant.0, ap length c.deref_mut.ensures.value)

pub invariant_of-self : goal.invariant_of-self
invariant_of-self c =
    let size : c.self.inside.len ≡ length c.args.self.now = sym (length-flags c.self.inside.len c.self.inside.words.items) ∙ ap length c.self.view_is in
    let items = with_items_is c.self.inside.words c.clear.new.row (omega (arith, c.clear.auto.row, c.deref_mut.ensures.len)) in
    let kept = rw c.deref_mut.ensures.value at c.clear.ensures.kept in
    rw items (
      omega (arith, c.clear.auto.row, ap length c.deref_mut.ensures.value, c.self.invariant.0),
      rest_kept c.self.inside.len c.self.inside.words.items c.clear.new.row c.self.invariant.1 c.args.from c.args.to
          (omega (arith, size, c.requires.within)) kept,
    )

pub returns-clause-kept : goal.returns-clause-kept
returns-clause-kept c =
    let size : c.self.inside.len ≡ length c.args.self.now = sym (length-flags c.self.inside.len c.self.inside.words.items) ∙ ap length c.self.view_is in
    let items = with_items_is c.self.inside.words c.clear.new.row (omega (arith, c.clear.auto.row, c.deref_mut.ensures.len)) in
    let kept = rw c.deref_mut.ensures.value at c.clear.ensures.kept in
    rw (items, ← c.self.view_is)
    (flags_kept c.self.inside.len c.self.inside.words.items c.clear.new.row c.self.invariant.1 c.args.from c.args.to
    (omega (arith, size, c.requires.within)) kept)

pub returns-clause-inside : goal.returns-clause-inside
returns-clause-inside c =
    let size : c.self.inside.len ≡ length c.args.self.now = sym (length-flags c.self.inside.len c.self.inside.words.items) ∙ ap length c.self.view_is in
    let items = with_items_is c.self.inside.words c.clear.new.row (omega (arith, c.clear.auto.row, c.deref_mut.ensures.len)) in
    rw items (λ k low high. flag-inside c.self.inside.len c.clear.new.row k (omega (arith, size, c.requires.within, high)) ∙ c.clear.ensures.inside k low high)
