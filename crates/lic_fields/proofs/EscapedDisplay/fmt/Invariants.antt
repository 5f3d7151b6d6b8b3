use Rattle.std.specs.Fmt.{HasWritten, IsPlainFormatter}
use Rattle.std.proofs.Math.Utf8.{encodes}
use Rattle.lic_fields.specs.Fields.{escaped}
use Rattle.lic_fields.proofs.EscapedDisplay.fmt.Given as goal

-- the characters so far are written
abbrev pub invariant-loop-c : goal.invariant-loop-c
invariant-loop-c g l =
    IsPlainFormatter l.initial.f → HasWritten g.W.Write.write_str_gives l.initial.f (escaped (encodes l.yielded)) l.f
