use Rattle.std.proofs.Common.{◌++◌, ◌<◌, length, get_or, ap, ◌∙◌, arith}
use Rattle.lic_tokens.specs.declared.entries.SourceBytes.{SourceBytes}
use Rattle.lic_tokens.proofs.EntriesBy.{end_of_source_by, length-entries_by, start_by}
use Rattle.lic_tokens.proofs.entries.Entries.source.Goals as goal
use Rattle.lic_tokens.proofs.entries.Entries.source.Goals.{After-self}

-- there is one
inside : (c : After-self) → c.args.i < length c.self.inside.sources.items
inside c =
    omega (
      arith,
      c.requires,
      length-entries_by (c.self.inside.near.items ++ c.self.inside.far.items) c.self.inside.sources.items c.self.invariant.0,
      ap length c.self.view_is,
    )

pub index-requires : goal.index-requires
index-requires c = omega (arith, inside (goal.at.index-requires c).After-self, c.self.inside.sources.ok)

pub returns-clause-start : goal.returns-clause-start
returns-clause-start c = λ d.
    let source : SourceBytes = c.index.result.now in
    ap (λ (s : SourceBytes). s.start) c.index.ensures
    ∙ start_by (c.self.inside.near.items ++ c.self.inside.far.items) c.self.inside.sources.items c.args.i source d c.self.invariant.0
    (inside (goal.at.returns-clause-start c).After-self)
    ∙ ap (λ es. (get_or es c.args.i d).start) c.self.view_is

pub returns-clause-end : goal.returns-clause-end
returns-clause-end c = λ d.
    let source : SourceBytes = c.index.result.now in
    ap (λ (s : SourceBytes). s.end) c.index.ensures
    ∙ end_of_source_by (c.self.inside.near.items ++ c.self.inside.far.items) c.self.inside.sources.items c.args.i source d c.self.invariant.0
    (inside (goal.at.returns-clause-end c).After-self)
    ∙ ap (λ es. (get_or es c.args.i d).end) c.self.view_is
