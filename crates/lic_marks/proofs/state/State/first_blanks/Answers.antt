use Rattle.std.proofs.Common.{true, ap, ◌∙◌}
use Rattle.lic_marks.specs.Rows.{flags_of, marks_of}
use Rattle.lic_marks.specs.Nodes.{core_of}
use Rattle.lic_marks.specs.Deciding.{over_blanks}
use Rattle.lic_marks.proofs.RowSteps.{marks_of-replicate}
use Rattle.lic_marks.proofs.state.State.first_blanks.Goals as goal

pub returns-clause-first : goal.returns-clause-first
returns-clause-first c =
    let r = core_of c.args.tree.now in
    ap (flags_of r) (ap (marks_of r) c.copy_from.ensures ∙ c.close.ensures.after_blanks
    ∙ ap (λ b. over_blanks r b (marks_of r c.args.self.now.at_once)) c.requires.fresh.entry
    ∙ ap (over_blanks r true) (ap (marks_of r) c.requires.fresh.clear ∙ marks_of-replicate r _))
