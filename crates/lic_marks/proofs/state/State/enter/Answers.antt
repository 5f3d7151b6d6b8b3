use Rattle.std.proofs.Common.{◌≡◌, true, false, ap, sym, ◌∙◌, subst, ne_eqb}
use Rattle.lic_words.specs.Words.{blank}
use Rattle.lic_words.specs.Spelling.{gap_of}
use Rattle.lic_marks.specs.Cores.{WordsOf}
use Rattle.lic_marks.specs.Marks.{Marks, join, shift}
use Rattle.lic_marks.specs.Rows.{marks_of}
use Rattle.lic_marks.specs.Nodes.{core_of}
use Rattle.lic_marks.specs.Representing.{AfterAny, Leads}
use Rattle.lic_marks.proofs.RowSteps.{marks_of-replicate}
use Rattle.lic_marks.proofs.StateLemmas.{without_gap}
use Rattle.lic_marks.proofs.Entering.{Entered, begun, Leads-entered, entered_lists, first_marks, first_sound, first_complete}
use Rattle.lic_marks.proofs.state.State.enter.Goals as goal
use Rattle.lic_marks.proofs.state.State.enter.Goals.{then-letter, else-letter}

pub returns-clause-taken : goal.returns-clause-taken
returns-clause-taken c = λ lists s.
    let r = core_of c.args.tree.now in
    let old = c.args.self.now in
    let letter = c.args.letter.letter in
    let words = c.args.letter.are_words in
    let first = c.args.first.now in
    let start : marks_of r c.if-letter.self.1.0 ≡ begun r words (marks_of r old.at_once) = elim c.if-letter.branch [
      | then-letter w ↦ rw w.self-is
          (ap (marks_of r) w.clear.ensures.clear ∙ marks_of-replicate r _
          ∙ ap (λ b. begun r b (marks_of r old.at_once)) (sym w.if-letter.true))
      | else-letter w ↦ rw w.self-is (ap (λ b. begun r b (marks_of r old.at_once)) (sym w.if-letter.false))
    ] in
    let at_once : marks_of r c.step.new.row ≡ shift r false true (begun r words (marks_of r old.at_once)) letter =
    c.step.ensures.marks ∙ ap (λ m. shift r false true m letter) start in
    let after_blanks : marks_of r c.step-2.new.row ≡ shift r true false (join r (marks_of r old.after_blanks) (marks_of r first)) letter =
    c.step-2.ensures.marks ∙ ap (λ m. shift r true false m letter) (c.join.ensures.marks r) in
    let all : marks_of r c.join-2.new.row ≡ join r (shift r false true (begun r words (marks_of r old.at_once)) letter)
    (shift r true false (join r (marks_of r old.after_blanks) (marks_of r first)) letter) =
    c.join-2.ensures.marks r ∙ ap (λ m. join r m (marks_of r c.step-2.new.row)) at_once
    ∙ ap (join r (shift r false true (begun r words (marks_of r old.at_once)) letter)) after_blanks in
    let blanks_first = first_marks r first c.requires.first in
    let leads = Leads-entered r old.entry (marks_of r old.at_once) (marks_of r old.after_blanks) (marks_of r first) (AfterAny (WordsOf r) lists)
    (s.apart c.requires.open) (first_sound r (marks_of r first) blanks_first) (first_complete r (marks_of r first) blanks_first)
    letter (ne_eqb letter blank c.args.letter.is_letter) words in
    without_gap r false _ _ _ (entered_lists r lists c.args.letter.is_apart words letter (marks_of r c.join-2.new.row) c.requires.apart
    (subst (λ (m : Marks r). Leads r false m (Entered r (gap_of true words) letter (AfterAny (WordsOf r) lists))) (sym all) leads))
