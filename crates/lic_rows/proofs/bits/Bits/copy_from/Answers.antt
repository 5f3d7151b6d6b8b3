use Rattle.std.proofs.Common.{◌≡◌, ◌∙◌, length, ap, sym, rules}
use Rattle.lic_rows.specs.Bits.{flags}
use Rattle.lic_rows.proofs.Flags.{same_flags, same_words}
use Rattle.lic_rows.proofs.bits.Bits.copy_from.Goals as goal

pub copy_from_slice-requires : goal.copy_from_slice-requires
copy_from_slice-requires c =
    let same : length (flags c.self.inside.len c.self.inside.words.items) ≡ length (flags c.other.inside.len c.other.inside.words.items) =
    ap length c.self.view_is ∙ c.requires ∙ sym (ap length c.other.view_is) in
    let words = same_words c.self.inside.len c.other.inside.len c.self.inside.words.items c.other.inside.words.items same c.self.invariant.0 c.other.invariant.0 in
    search (rules, sym, words, c.deref.ensures.value)

pub invariant_of-self : goal.invariant_of-self
invariant_of-self c =
    let same : length (flags c.self.inside.len c.self.inside.words.items) ≡ length (flags c.other.inside.len c.other.inside.words.items) =
    ap length c.self.view_is ∙ c.requires ∙ sym (ap length c.other.view_is) in
    rw (c.copy_from_slice.ensures.items, c.deref.ensures.value, same_flags c.self.inside.len c.other.inside.len _ _ same) c.other.invariant

pub returns : goal.returns
returns c =
    let same : length (flags c.self.inside.len c.self.inside.words.items) ≡ length (flags c.other.inside.len c.other.inside.words.items) =
    ap length c.self.view_is ∙ c.requires ∙ sym (ap length c.other.view_is) in
    ap (λ n. flags n c.copy_from_slice.new.self.items) (same_flags c.self.inside.len c.other.inside.len _ _ same)
    ∙ ap (flags c.other.inside.len) (c.copy_from_slice.ensures.items ∙ c.deref.ensures.value) ∙ c.other.view_is
