use Rattle.lic_marks.proofs.Seeking.{answer_sound, answer_complete}
use Rattle.lic_marks.proofs.unanchored.UnanchoredMatcher.accepts.Goals as goal

pub returns : goal.returns
returns c = λ e ts s.
    let answer = c.accepts.ensures _ s.taken in (
      λ h. answer_sound e _ s.words ts (answer.0 h),
      λ h. answer.1 (answer_complete e _ s.words ts h),
    )
