use Rattle.std.proofs.Common.{◌≡◌, ◌∙◌, length, ap, sym, arith}
use Rattle.std.proofs.lemmas.List.{with_items_is}
use Rattle.lic_rows.specs.Bits.{flags}
use Rattle.lic_rows.proofs.Flags.{same_flags, same_words, rest_joined, flags_joined, flags_grown, flags_same}
use Rattle.lic_rows.proofs.bits.Bits.join.Goals as goal

pub has_fresh-grows-requires : goal.has_fresh-grows-requires
has_fresh-grows-requires c =
    let same : length (flags c.self.inside.len c.self.inside.words.items) ≡ length (flags c.other.inside.len c.other.inside.words.items) =
    ap length c.self.view_is ∙ c.requires ∙ sym (ap length c.other.view_is) in
    ap length c.deref.ensures.value ∙ same_words c.self.inside.len c.other.inside.len _ _ same c.self.invariant.0 c.other.invariant.0
    ∙ sym (ap length c.deref-2.ensures.value)

pub or_into-requires : goal.or_into-requires
or_into-requires c =
    let same : length (flags c.self.inside.len c.self.inside.words.items) ≡ length (flags c.other.inside.len c.other.inside.words.items) =
    ap length c.self.view_is ∙ c.requires ∙ sym (ap length c.other.view_is) in
    ap length c.deref_mut.ensures.value ∙ same_words c.self.inside.len c.other.inside.len _ _ same c.self.invariant.0 c.other.invariant.0
    ∙ sym (ap length c.deref-3.ensures.value)

pub invariant_of-self : goal.invariant_of-self
invariant_of-self c =
    let same : length (flags c.self.inside.len c.self.inside.words.items) ≡ length (flags c.other.inside.len c.other.inside.words.items) =
    ap length c.self.view_is ∙ c.requires ∙ sym (ap length c.other.view_is) in
    let n = same_flags c.self.inside.len c.other.inside.len _ _ same in
    let items = with_items_is c.self.inside.words c.or_into.new.into (omega (arith, c.or_into.auto.into, c.deref_mut.ensures.len)) in
    let joined = rw (c.deref_mut.ensures.value, c.deref-3.ensures.value) at c.or_into.ensures in
    rw items (
      omega (arith, c.or_into.auto.into, ap length c.deref_mut.ensures.value, c.self.invariant.0),
      rest_joined c.self.inside.len c.self.inside.words.items c.other.inside.words.items c.or_into.new.into c.self.invariant.1 (rw (← n) at c.other.invariant.1) joined,
    )

pub returns-clause-either : goal.returns-clause-either
returns-clause-either c =
    let same : length (flags c.self.inside.len c.self.inside.words.items) ≡ length (flags c.other.inside.len c.other.inside.words.items) =
    ap length c.self.view_is ∙ c.requires ∙ sym (ap length c.other.view_is) in
    let n = same_flags c.self.inside.len c.other.inside.len _ _ same in
    let items = with_items_is c.self.inside.words c.or_into.new.into (omega (arith, c.or_into.auto.into, c.deref_mut.ensures.len)) in
    let joined = rw (c.deref_mut.ensures.value, c.deref-3.ensures.value) at c.or_into.ensures in
    rw (items, ← c.self.view_is, ← c.other.view_is, ← n) (flags_joined c.self.inside.len c.self.inside.words.items c.other.inside.words.items c.or_into.new.into c.self.invariant.1 (rw (← n) at c.other.invariant.1) joined)

pub returns-clause-same : goal.returns-clause-same
returns-clause-same c = λ is.
    let same : length (flags c.self.inside.len c.self.inside.words.items) ≡ length (flags c.other.inside.len c.other.inside.words.items) =
    ap length c.self.view_is ∙ c.requires ∙ sym (ap length c.other.view_is) in
    let n = same_flags c.self.inside.len c.other.inside.len _ _ same in
    let items = with_items_is c.self.inside.words c.or_into.new.into (omega (arith, c.or_into.auto.into, c.deref_mut.ensures.len)) in
    let joined = rw (c.deref_mut.ensures.value, c.deref-3.ensures.value) at c.or_into.ensures in
    let none = rw (c.deref.ensures.value, c.deref-2.ensures.value) at c.has_fresh-grows.ensures.none is in
    rw (items, ← c.self.view_is) (flags_same c.self.inside.len c.self.inside.words.items c.other.inside.words.items c.or_into.new.into c.self.invariant.1 (rw (← n) at c.other.invariant.1) joined none)

pub returns-clause-grows : goal.returns-clause-grows
returns-clause-grows c = λ is.
    let same : length (flags c.self.inside.len c.self.inside.words.items) ≡ length (flags c.other.inside.len c.other.inside.words.items) =
    ap length c.self.view_is ∙ c.requires ∙ sym (ap length c.other.view_is) in
    let n = same_flags c.self.inside.len c.other.inside.len _ _ same in
    let items = with_items_is c.self.inside.words c.or_into.new.into (omega (arith, c.or_into.auto.into, c.deref_mut.ensures.len)) in
    let joined = rw (c.deref_mut.ensures.value, c.deref-3.ensures.value) at c.or_into.ensures in
    let some = rw (c.deref.ensures.value, c.deref-2.ensures.value) at c.has_fresh-grows.ensures.some is in
    rw (items, ← c.self.view_is) (flags_grown c.self.inside.len c.self.inside.words.items c.other.inside.words.items c.or_into.new.into c.self.invariant.1 (rw (← n) at c.other.invariant.1) joined some)
