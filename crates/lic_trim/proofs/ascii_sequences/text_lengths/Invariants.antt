use Rattle.std.proofs.Common.{drop}
use Rattle.lic_kind.specs.LineRules.{texts_of}
use Rattle.lic_trim.specs.Walks.{walked}
use Rattle.lic_trim.proofs.BegunTexts.{AreFound}
use Rattle.lic_trim.proofs.ascii_sequences.text_lengths.Given as goal

-- the lengths of the texts whose bits were looked at
abbrev pub invariant-loop-left : goal.invariant-loop-left
invariant-loop-left l = AreFound l.side (texts_of l.texts) (drop l.index (walked l.side l.line)) l.mask l.left

abbrev pub decreases-loop-left : goal.decreases-loop-left
decreases-loop-left l = l.left
