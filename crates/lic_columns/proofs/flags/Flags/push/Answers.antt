use Rattle.std.proofs.Common.{◌≡◌, ◌+◌, ◌/◌, ◌%◌, ◌∙◌, ◌++◌, [], ◌∷◌, length, ap, sym, arith, rules}
use Rattle.std.proofs.lemmas.List.{length_push}
use Rattle.lic_columns.specs.Flags.{bits_of, flags_in}
use Rattle.lic_columns.proofs.FlagLemmas.{length-flags_in, rest_pushed, flags_pushed}
use Rattle.lic_columns.proofs.flags.Flags.push.Goals as goal

pub overflow_add-self : goal.overflow_add-self
overflow_add-self c =
    let size : c.self.inside.len ≡ length c.args.self.now = sym (length-flags_in c.self.inside.len c.self.inside.columns.items) ∙ ap length c.self.view_is in
    record { fits = omega (arith, size, c.requires.bounded) }

pub invariant_of-self-2 : goal.invariant_of-self-2
invariant_of-self-2 c =
    let size : c.self.inside.len ≡ length c.args.self.now = sym (length-flags_in c.self.inside.len c.self.inside.columns.items) ∙ ap length c.self.view_is in
    let whole : c.self.inside.len % 64 ≡ 0 = omega (arith, size, c.requires.whole) in
    let columns : length c.self.inside.columns.items ≡ c.self.inside.len / 64 = omega (arith, c.self.invariant.0, whole) in
    let items : c.push.new.self.items ≡ c.self.inside.columns.items ++ c.args.mask ∷ [] = search rules in
    rw items (
      omega (arith, length_push c.self.inside.columns.items c.args.mask, columns, whole, c.requires.some, c.requires.count),
      rest_pushed c.self.inside.len c.self.inside.columns.items c.self.invariant.1 whole columns c.args.mask c.args.count c.requires.count c.requires.below,
    )

pub returns : goal.returns
returns c =
    let size : c.self.inside.len ≡ length c.args.self.now = sym (length-flags_in c.self.inside.len c.self.inside.columns.items) ∙ ap length c.self.view_is in
    let whole : c.self.inside.len % 64 ≡ 0 = omega (arith, size, c.requires.whole) in
    let columns : length c.self.inside.columns.items ≡ c.self.inside.len / 64 = omega (arith, c.self.invariant.0, whole) in
    let items : c.push.new.self.items ≡ c.self.inside.columns.items ++ c.args.mask ∷ [] = search rules in
    ap (λ l. flags_in (c.self.inside.len + c.args.count) l) items
    ∙ flags_pushed c.self.inside.len c.self.inside.columns.items c.self.invariant.1 whole columns c.args.mask c.args.count c.requires.count c.requires.below
    ∙ ap (λ l. l ++ bits_of c.args.count c.args.mask) c.self.view_is
