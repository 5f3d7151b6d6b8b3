use Rattle.std.proofs.Common.{◌≡◌, false}
use Rattle.std.specs.Prelude.{bytes_eq, take}
use Rattle.std.specs.List.{list_any}
use Rattle.lic_trim.specs.Sources.{chars_of}
use Rattle.lic_kind.specs.LineRules.{texts_of}
use Rattle.lic_trim.specs.Walks.{walked, ends_piece}
use Rattle.lic_trim.proofs.sequences.any_text_ends.Given as goal

-- none of the texts so far does
abbrev pub invariant-loop-i : goal.invariant-loop-i
invariant-loop-i l = list_any (λ t.
    ends_piece (bytes_eq (walked l.side t)) l.flags (walked l.side (chars_of l.line)) l.end)
    (take l.i (texts_of l.texts)) ≡ false
