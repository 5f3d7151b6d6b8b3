use Rattle.std.proofs.Common.{◌≡◌, ◌∙◌, length, ap, sym, arith}
use Rattle.lic_rows.proofs.Flags.{length-flags, last_flag, none_flag}
use Rattle.lic_rows.proofs.bits.Bits.last_set.Goals as goal

pub last_set-requires-clause-within : goal.last_set-requires-clause-within
last_set-requires-clause-within c =
    let size : c.self.inside.len ≡ length c.args.self.now = sym (length-flags c.self.inside.len c.self.inside.words.items) ∙ ap length c.self.view_is in
    omega (arith, size, c.requires.within, c.self.invariant.0, ap length c.deref.ensures.value)

pub returns-clause-found : goal.returns-clause-found
returns-clause-found c =
    let size : c.self.inside.len ≡ length c.args.self.now = sym (length-flags c.self.inside.len c.self.inside.words.items) ∙ ap length c.self.view_is in
    let found = rw c.deref.ensures.value at c.last_set.ensures.found in
    rw (← c.self.view_is) (last_flag c.self.inside.len c.self.inside.words.items c.args.from c.args.to
    (omega (arith, size, c.requires.within)) c.last_set.result found)

pub returns-clause-none : goal.returns-clause-none
returns-clause-none c =
    let size : c.self.inside.len ≡ length c.args.self.now = sym (length-flags c.self.inside.len c.self.inside.words.items) ∙ ap length c.self.view_is in
    let none = rw c.deref.ensures.value at c.last_set.ensures.none in
    rw (← c.self.view_is) (none_flag c.self.inside.len c.self.inside.words.items c.args.from c.args.to
    (omega (arith, size, c.requires.within)) c.last_set.result none)
