use Rattle.std.proofs.Common.{◌≡◌, ◌+◌, ◌-◌, ◌*◌, ◌/◌, ◌<◌, ◌≤◌, ◌∙◌, ℕ, length, get_or, ap, sym, refl, arith}
use Rattle.std.proofs.Common.{◌%◌, ◌&&◌, not, rules}
use Rattle.std.proofs.lemmas.List.{get_or_read}
use Rattle.lic_columns.specs.Flags.{flags_in, cleared, is_within}
use Rattle.lic_columns.proofs.FlagLemmas.{IsCleared-none, IsCleared-more, length-flags_in, rest_cleared, flags_cleared}
use Rattle.lic_columns.proofs.flags.Flags.clear.Goals as goal
use Rattle.lic_trim.specs.PieceLengths.{has_bit}

pub loop-at-init : goal.loop-at-init
loop-at-init c = (refl, omega arith, c.requires.order, IsCleared-none c.args.from c.self.inside.columns.items)

pub invariant_of-self : goal.invariant_of-self
invariant_of-self c =
    let i = c.loop-at.invariant in
    rw i.0 (
      i.3.size ∙ c.self.invariant.0,
      rest_cleared c.self.inside.len c.args.from c.loop-at.at c.self.inside.columns.items c.loop-at.self-inside.columns.items c.self.invariant.1 i.3,
    )

-- an offset of the flags is in one of the columns
column_is_there : (len columns at to : ℕ) → columns ≡ (len + 63) / 64 → at < to → to ≤ len → at / 64 < columns
column_is_there len columns at to size before bounded = omega arith

pub index-requires : goal.index-requires
index-requires c =
    let size : c.self.inside.len ≡ length c.args.self.now = sym (length-flags_in c.self.inside.len c.self.inside.columns.items) ∙ ap length c.self.view_is in
    let inside : c.loop-at.at / 64 < length c.loop-at.self-inside.columns.items =
    column_is_there c.self.inside.len _ c.loop-at.at c.args.to (c.loop-at.invariant.3.size ∙ c.self.invariant.0) c.loop-at-test.true (omega (arith, size, c.requires.bounded)) in
    search rules

pub index_mut-requires : goal.index_mut-requires
index_mut-requires c =
    let size : c.self.inside.len ≡ length c.args.self.now = sym (length-flags_in c.self.inside.len c.self.inside.columns.items) ∙ ap length c.self.view_is in
    let inside : c.loop-at.at / 64 < length c.loop-at.self-inside.columns.items =
    column_is_there c.self.inside.len _ c.loop-at.at c.args.to (c.loop-at.invariant.3.size ∙ c.self.invariant.0) c.loop-at-test.true (omega (arith, size, c.requires.bounded)) in
    search rules

pub loop-at-preserved : goal.loop-at-preserved
loop-at-preserved c =
    let size : c.self.inside.len ≡ length c.args.self.now = sym (length-flags_in c.self.inside.len c.self.inside.columns.items) ∙ ap length c.self.view_is in
    let i = c.loop-at.invariant in
    let columns = c.loop-at.self-inside.columns.items in
    let at : ℕ = c.loop-at.at in
    let next : ℕ = at / 64 * 64 + c.min-last.result in
    let inside : at / 64 < length columns =
    column_is_there c.self.inside.len _ at c.args.to (i.3.size ∙ c.self.invariant.0) c.loop-at-test.true (omega (arith, size, c.requires.bounded)) in
    let old : c.index.result.now ≡ get_or columns (at / 64) 0 = get_or_read columns (at / 64) c.index.result.now inside c.index.ensures 0 in
    let last : next - at / 64 * 64 ≡ c.min-last.result = omega arith in
    let before : c.loop-at.at < c.args.to = c.loop-at-test.true in (
      i.0,
      omega (arith, i.1, c.min-last.ensures, before),
      omega (arith, c.min-last.ensures, before),
      IsCleared-more c.args.from at next i.1 (omega (arith, c.min-last.ensures, before)) (omega (arith, c.min-last.ensures)) c.self.inside.columns.items columns
          c.without.result i.3 inside
          (λ k small. c.without.ensures k small ∙ ap (λ m. has_bit m k && not (is_within (at % 64) c.min-last.result k)) old
          ∙ ap (λ m. has_bit (get_or columns (at / 64) 0) k && not (is_within (at % 64) m k)) (sym last)),
    )

pub returns : goal.returns
returns c =
    let i = c.loop-at.invariant in
    let at : c.loop-at.at ≡ c.args.to = omega (arith, i.2, c.loop-at-test.false) in
    ap (λ n. flags_in n c.loop-at.self-inside.columns.items) i.0
    ∙ flags_cleared c.self.inside.len c.args.from c.loop-at.at c.self.inside.columns.items c.loop-at.self-inside.columns.items c.self.invariant.1 i.3
    ∙ ap (λ n. cleared c.args.from n (flags_in c.self.inside.len c.self.inside.columns.items)) at
    ∙ ap (cleared c.args.from c.args.to) c.self.view_is
