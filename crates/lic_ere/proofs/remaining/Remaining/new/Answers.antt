use Rattle.std.proofs.Common.{arith}
use Rattle.std.proofs.lemmas.Str.{is_utf8-from_IsUtf8}
use Rattle.lic_ere.proofs.remaining.Remaining.new.Goals as goal

pub invariant_of-result : goal.invariant_of-result
invariant_of-result c = record { utf8 = is_utf8-from_IsUtf8 c.args.pattern.now c.utf8.pattern; fits = omega arith }
