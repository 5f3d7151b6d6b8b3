use Rattle.std.proofs.Common.{false, sym, subst}
use Rattle.lic_marks.specs.Cores.{WordsOf}
use Rattle.lic_marks.specs.Rows.{marks_of}
use Rattle.lic_marks.specs.Nodes.{core_of}
use Rattle.lic_marks.specs.Representing.{AfterAny, LeadsSoFar}
use Rattle.lic_marks.specs.declared.state.State.{State}
use Rattle.lic_marks.proofs.Lists.{AfterAny-snoc, snoc-AfterAny}
use Rattle.lic_marks.proofs.StateLemmas.{without_gap, gap_used}
use Rattle.lic_marks.proofs.Representing.{Leads-same, LeadsSoFar-letter}
use Rattle.lic_marks.proofs.state.State.letter.Goals as goal
use Rattle.lic_marks.proofs.state.State.letter.Goals.{then-letter, else-letter}

pub returns-clause-taken : goal.returns-clause-taken
returns-clause-taken c = λ lists s.
    let r = core_of c.args.tree.now in
    let is_apart = c.args.letter.is_apart in
    let Before : State → Type 0 =
    λ state. LeadsSoFar r state.entry (marks_of r state.at_once) (marks_of r state.after_blanks) is_apart
    (AfterAny (WordsOf r) lists) in
    let before : Before c.if-letter.self = elim c.if-letter.branch [
      | then-letter w ↦ subst Before (sym w.self-is)
          (gap_used r _ _ _ _ w.gap.new.self.is_apart is_apart (λ _. w.gap.ensures.open) (w.gap.ensures.taken lists s))
      | else-letter w ↦ subst Before (sym w.self-is)
          (gap_used r _ _ _ _ c.args.self.now.is_apart is_apart (λ e. absurd (let f = w.if-letter.false in cc)) s)
    ] in
    without_gap r false _ _ _ (Leads-same r false _ _ _ (λ v h. snoc-AfterAny (WordsOf r) lists _ _ v h) (λ v h. AfterAny-snoc (WordsOf r) lists _ _ v h)
    (rw c.shift.ensures.marks
    (LeadsSoFar-letter r c.if-letter.self.entry _ _ is_apart
    (AfterAny (WordsOf r) lists) before c.args.letter.are_words c.args.letter.letter c.args.letter.is_letter)))
