use Rattle.std.proofs.Common.{◌≡◌, ◌++◌, ◌-◌, ◌≤◌, ◌<◌, length, get_or, refl, ap, ◌∙◌, arith, length-append}
use Rattle.lic_tokens.proofs.EntriesBy.{far_end, length-entries_by, near_end}
use Rattle.lic_tokens.proofs.entries.Entries.text_end.Goals as goal
use Rattle.lic_tokens.proofs.entries.Entries.text_end.Goals.{After-self}

-- there is one
inside : (c : After-self) → c.args.i < length c.self.inside.sources.items
inside c =
    omega (
      arith,
      c.requires,
      length-entries_by (c.self.inside.near.items ++ c.self.inside.far.items) c.self.inside.sources.items c.self.invariant.0,
      ap length c.self.view_is,
    )

pub index-requires-else-i-len : goal.index-requires-else-i-len
index-requires-else-i-len c =
    let near = c.self.inside.near.items in
    let far = c.self.inside.far.items in
    omega (
      arith,
      inside (goal.at.index-requires-else-i-len c).After-self,
      c.if-i-len.false,
      c.len.ensures,
      c.len-else-i-len.ensures,
      c.self.inside.near.ok,
      c.self.inside.far.ok,
      c.self.invariant.0,
      length-append near far,
    )

pub returns-then-i-len : goal.returns-then-i-len
returns-then-i-len c = λ d.
    let near = c.self.inside.near.items in
    let first : c.args.i < length near = omega (arith, c.if-i-len.true, c.len.ensures, c.self.inside.near.ok) in
    c.index.ensures
    ∙ near_end near c.self.inside.far.items c.self.inside.sources.items c.args.i d c.self.invariant.0
    (inside (goal.at.returns-then-i-len c).After-self) c.args.i c.index.result.now refl first
    ∙ ap (λ es. (get_or es c.args.i d).text_end) c.self.view_is

pub returns-else-i-len : goal.returns-else-i-len
returns-else-i-len c = λ d.
    let near = c.self.inside.near.items in
    let at : c.args.i - c.len-else-i-len.result ≡ c.args.i - length near = omega (arith, c.len-else-i-len.ensures, c.self.inside.near.ok) in
    let later : length near ≤ c.args.i = omega (arith, c.if-i-len.false, c.len.ensures, c.self.inside.near.ok) in
    c.index-else-i-len.ensures
    ∙ far_end near c.self.inside.far.items c.self.inside.sources.items c.args.i d c.self.invariant.0
    (inside (goal.at.returns-else-i-len c).After-self) (c.args.i - c.len-else-i-len.result) c.index-else-i-len.result.now at later
    ∙ ap (λ es. (get_or es c.args.i d).text_end) c.self.view_is
