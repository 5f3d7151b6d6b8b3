use Rattle.lic_marks.specs.Nodes.{core_of}
use Rattle.lic_marks.proofs.Seeking.{answer_complete}
use Rattle.lic_marks.proofs.unanchored.UnanchoredMatcher.is_dead.Goals as goal

pub returns : goal.returns
returns c = λ e ts s h described.
    let word = answer_complete e _ s.words ts described in
    c.is_dead.ensures (core_of c.args.self.now.tree) _ s.taken h _ word.1
