use Rattle.lic_marks.specs.Nodes.{core_of}
use Rattle.lic_marks.proofs.StateLemmas.{with_gap}
use Rattle.lic_marks.proofs.Deciding.{LeadsOverBlanks-over_blanks}
use Rattle.lic_marks.proofs.state.State.gap.Goals as goal

pub returns-then-not-self-clause-taken : goal.returns-then-not-self-clause-taken
returns-then-not-self-clause-taken c = λ lists s.
    rw (c.close.ensures.entry, c.close.ensures.at_once, c.close.ensures.after_blanks)
    (with_gap (core_of c.args.tree.now) _ _ _ _ (LeadsOverBlanks-over_blanks (core_of c.args.tree.now) c.args.self.now.entry _ _ s.now))
