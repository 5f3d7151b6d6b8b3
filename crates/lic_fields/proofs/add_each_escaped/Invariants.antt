use Rattle.std.proofs.Common.{◌≡◌, ◌++◌, take}
use Rattle.lic_fields.specs.Fields.{escaped}
use Rattle.lic_fields.proofs.add_each_escaped.Given as goal

abbrev pub invariant-loop-byte : goal.invariant-loop-byte
invariant-loop-byte l = l.line.items ≡ l.fn.line.items ++ escaped (take l.byte-index l.bytes)
