use Rattle.std.proofs.Common.{◌≡◌, false}
use Rattle.std.specs.Prelude.{take, drop}
use Rattle.std.specs.List.{list_any}
use Rattle.lic_kind.specs.LineRules.{texts_of}
use Rattle.lic_trim.specs.PieceLengths.{continues}
use Rattle.lic_trim.specs.Walks.{walked, End}
use Rattle.lic_trim.proofs.ascii_sequences.any_continues.Given as goal

-- none of the texts so far does
abbrev pub invariant-loop-i : goal.invariant-loop-i
invariant-loop-i l = list_any (continues (drop l.index (walked End l.line))) (take l.i (texts_of l.texts)) ≡ false
