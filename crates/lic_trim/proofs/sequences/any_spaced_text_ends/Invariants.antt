use Rattle.std.proofs.Common.{◌≡◌, false}
use Rattle.std.specs.Prelude.{take}
use Rattle.std.specs.List.{list_any}
use Rattle.lic_trim.specs.Sources.{chars_of}
use Rattle.lic_kind.specs.LineRules.{texts_of}
use Rattle.lic_trim.specs.Walks.{walked, spaced_text_ends}
use Rattle.lic_trim.proofs.sequences.any_spaced_text_ends.Given as goal

-- none of the texts so far does
abbrev pub invariant-loop-i : goal.invariant-loop-i
invariant-loop-i l = list_any (λ t. spaced_text_ends l.flags (walked l.side (chars_of l.line)) l.end (walked l.side t)) (take l.i (texts_of l.texts)) ≡ false
