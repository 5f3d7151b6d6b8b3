use Rattle.std.proofs.Common.{◌++◌, ◌-◌, ◌<◌, length, get_or, refl, ap, ◌∙◌, arith}
use Rattle.lic_tokens.proofs.EntriesBy.{length-entries_by, near_end}
use Rattle.lic_tokens.proofs.entries.Entries.near_ends.Goals as goal
use Rattle.lic_tokens.proofs.entries.Entries.near_ends.Goals.{After-self}

-- there is one
inside : (c : After-self) → c.args.i < length c.self.inside.sources.items
inside c =
    omega (
      arith,
      c.requires,
      length-entries_by (c.self.inside.near.items ++ c.self.inside.far.items) c.self.inside.sources.items c.self.invariant.0,
      ap length c.self.view_is,
    )

pub returns-then-before-saturating_sub-clause-before : goal.returns-then-before-saturating_sub-clause-before
returns-then-before-saturating_sub-clause-before c = λ d.
    let near = c.self.inside.near.items in
    let i = c.args.i - 1 in
    let first : i < length near =
    omega (arith, c.if-before-saturating_sub.true, c.saturating_sub.ensures, c.len.ensures, c.self.inside.near.ok, c.ranges.i.fits) in
    c.index.ensures
    ∙ near_end near c.self.inside.far.items c.self.inside.sources.items i d c.self.invariant.0
    (omega (arith, inside (goal.at.returns-then-before-saturating_sub-clause-before c).After-self)) _ c.index.result.now
    (omega (arith, c.if-before-saturating_sub.true, c.saturating_sub.ensures, c.len.ensures, c.self.inside.near.ok, c.ranges.i.fits)) first
    ∙ ap (λ es. (get_or es i d).text_end) c.self.view_is

pub returns-then-before-saturating_sub-clause-end : goal.returns-then-before-saturating_sub-clause-end
returns-then-before-saturating_sub-clause-end c = λ d.
    let near = c.self.inside.near.items in
    let first : c.args.i < length near =
    omega (arith, c.if-before-saturating_sub.true, c.saturating_sub.ensures, c.len.ensures, c.self.inside.near.ok, c.ranges.i.fits) in
    c.index-then-before-saturating_sub.ensures
    ∙ near_end near c.self.inside.far.items c.self.inside.sources.items c.args.i d c.self.invariant.0
    (inside (goal.at.returns-then-before-saturating_sub-clause-end c).After-self) c.args.i c.index-then-before-saturating_sub.result.now refl first
    ∙ ap (λ es. (get_or es c.args.i d).text_end) c.self.view_is
