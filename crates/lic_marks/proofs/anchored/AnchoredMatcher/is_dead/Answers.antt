use Rattle.std.proofs.Common.{false}
use Rattle.lic_words.specs.Words.{blank}
use Rattle.lic_words.specs.Spelling.{gapped, gapped_from, sequence_of, last_of}
use Rattle.lic_marks.specs.Nodes.{core_of}
use Rattle.lic_marks.proofs.Representing.{never_spelled}
use Rattle.lic_marks.proofs.TokenRows.{gapped-append}
use Rattle.lic_marks.proofs.anchored.AnchoredMatcher.is_dead.Goals as goal

pub returns : goal.returns
returns c = λ e ts s h more (some, w, language, spells).
    let r = core_of c.args.self.now.tree in
    never_spelled r (gapped ts) (gapped_from (last_of blank ts) false (sequence_of more)) (c.is_clear.ensures r (gapped ts) s.taken h) w
    ((s.words w).1 language) (rw gapped-append at spells)
