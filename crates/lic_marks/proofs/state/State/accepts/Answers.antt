use Rattle.std.proofs.Common.{◌≡◌, ◌||◌, true, false, refl, sym, ◌∙◌}
use Rattle.lic_marks.specs.Cores.{WordsOf}
use Rattle.lic_marks.specs.Marks.{can_leave}
use Rattle.lic_marks.specs.Rows.{marks_of}
use Rattle.lic_marks.specs.Nodes.{core_of}
use Rattle.lic_marks.specs.Representing.{AfterAny}
use Rattle.lic_marks.proofs.Representing.{leaving_sound, leaving_complete}
use Rattle.lic_marks.proofs.state.State.accepts.Goals as goal

pub returns : goal.returns
returns c = λ lists s.
    let r = core_of c.args.tree.now in
    let state = c.args.self.now in
    let both = s.apart c.requires.open in
    let answer : (c.leaves-at_once.result || c.leaves-after_blanks.result)
    ≡ (can_leave r false state.entry (marks_of r state.at_once) || can_leave r true false (marks_of r state.after_blanks)) =
    rw (c.leaves-at_once.ensures.answer, c.leaves-after_blanks.ensures.answer) refl in (
      λ h. leaving_sound r _ _ _ (AfterAny (WordsOf r) lists) both (sym answer ∙ h),
      λ h. answer ∙ leaving_complete r _ _ _ (AfterAny (WordsOf r) lists) both h.0 h.1,
    )
