use Rattle.std.proofs.Common.{◌≡◌, suc, ◌∙◌, length, ap, sym, arith}
use Rattle.std.proofs.lemmas.List.{with_items_is}
use Rattle.lic_rows.proofs.Flags.{length-flags, flag-inside, rest_kept, flags_kept}
use Rattle.lic_rows.proofs.bits.Bits.move_up.Goals as goal

pub move_up-requires-clause-within : goal.move_up-requires-clause-within
move_up-requires-clause-within c =
    let size : c.self.inside.len ≡ length c.args.self.now = sym (length-flags c.self.inside.len c.self.inside.words.items) ∙ ap length c.self.view_is in
    omega (arith, size, c.requires.within, c.self.invariant.0, ap length c.deref_mut.ensures.value)

pub invariant_of-self : goal.invariant_of-self
invariant_of-self c =
    let size : c.self.inside.len ≡ length c.args.self.now = sym (length-flags c.self.inside.len c.self.inside.words.items) ∙ ap length c.self.view_is in
    let items = with_items_is c.self.inside.words c.move_up.new.row (omega (arith, c.move_up.auto.row, c.deref_mut.ensures.len)) in
    let kept = rw c.deref_mut.ensures.value at c.move_up.ensures.kept in
    rw items (
      omega (arith, c.move_up.auto.row, ap length c.deref_mut.ensures.value, c.self.invariant.0),
      rest_kept c.self.inside.len c.self.inside.words.items c.move_up.new.row c.self.invariant.1 c.args.from c.args.to
          (omega (arith, size, c.requires.within)) kept,
    )

pub returns-clause-kept : goal.returns-clause-kept
returns-clause-kept c =
    let size : c.self.inside.len ≡ length c.args.self.now = sym (length-flags c.self.inside.len c.self.inside.words.items) ∙ ap length c.self.view_is in
    let items = with_items_is c.self.inside.words c.move_up.new.row (omega (arith, c.move_up.auto.row, c.deref_mut.ensures.len)) in
    let kept = rw c.deref_mut.ensures.value at c.move_up.ensures.kept in
    rw (items, ← c.self.view_is)
    (flags_kept c.self.inside.len c.self.inside.words.items c.move_up.new.row c.self.invariant.1 c.args.from c.args.to
    (omega (arith, size, c.requires.within)) kept)

pub returns-clause-first : goal.returns-clause-first
returns-clause-first c =
    let size : c.self.inside.len ≡ length c.args.self.now = sym (length-flags c.self.inside.len c.self.inside.words.items) ∙ ap length c.self.view_is in
    let items = with_items_is c.self.inside.words c.move_up.new.row (omega (arith, c.move_up.auto.row, c.deref_mut.ensures.len)) in
    rw items (flag-inside c.self.inside.len c.move_up.new.row c.args.from (omega (arith, size, c.requires.order, c.requires.within)) ∙ c.move_up.ensures.first)

pub returns-clause-rest : goal.returns-clause-rest
returns-clause-rest c =
    let size : c.self.inside.len ≡ length c.args.self.now = sym (length-flags c.self.inside.len c.self.inside.words.items) ∙ ap length c.self.view_is in
    let items = with_items_is c.self.inside.words c.move_up.new.row (omega (arith, c.move_up.auto.row, c.deref_mut.ensures.len)) in
    let rest = rw c.deref_mut.ensures.value at c.move_up.ensures.rest in
    rw (items, ← c.self.view_is) (λ k low high.
    flag-inside c.self.inside.len c.move_up.new.row (suc k) (omega (arith, size, c.requires.within, high)) ∙ rest k low high
    ∙ sym (flag-inside c.self.inside.len c.self.inside.words.items k (omega (arith, size, c.requires.within, high))))
