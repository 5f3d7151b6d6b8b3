use Rattle.std.proofs.Common.{◌++◌, List, ℕ, ap, ap₂, subst, sym, ◌∙◌}
use Rattle.lic_tokens.specs.Entries.{AreNear, entries_by}
use Rattle.lic_tokens.specs.declared.entries.SourceBytes.{SourceBytes}
use Rattle.lic_tokens.proofs.EntriesBy.{entries_by-append, moved}
use Rattle.lic_tokens.proofs.entries.Entries.extend.Goals as goal

pub returns-clause-added : goal.returns-clause-added
returns-clause-added c =
    let near = c.self.inside.near.items in
    let far = c.self.inside.far.items in
    let sources = c.self.inside.sources.items in
    let ends = c.args.ends.now in
    ap₂ (λ (a : List ℕ) (b : List SourceBytes). entries_by (a ++ far) b) c.in_ok-extend_from_slice.ensures.items
    (c.in_ok-extend_from_slice-2.ensures.items ∙ ap (λ l. l ++ c.args.sources.now) c.in_ok-reserve.ensures.items)
    ∙ ap (λ l. entries_by l (sources ++ c.args.sources.now))
    (moved near far ends (λ some. c.self.invariant.1 (subst AreNear (sym c.self.view_is) (c.requires.near some))))
    ∙ entries_by-append (near ++ far) ends sources c.args.sources.now c.self.invariant.0
    ∙ ap (λ es. es ++ entries_by ends c.args.sources.now) c.self.view_is
