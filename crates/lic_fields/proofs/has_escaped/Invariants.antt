use Rattle.std.proofs.Common.{◌≡◌, false, take}
use Rattle.lic_fields.specs.Fields.{ArePlain}
use Rattle.lic_fields.proofs.has_escaped.Given as goal

-- where none was found, what was looked at stays as it is
abbrev pub invariant-loop-byte : goal.invariant-loop-byte
invariant-loop-byte l = l.found ≡ false → ArePlain (take l.byte-index l.bytes)
