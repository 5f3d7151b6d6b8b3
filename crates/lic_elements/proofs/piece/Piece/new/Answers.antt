use Rattle.std.proofs.Common.{arith}
use Rattle.std.proofs.lemmas.Str.{is_utf8-from_IsUtf8}
use Rattle.lic_elements.proofs.piece.Piece.new.Goals as goal

pub invariant_of-result : goal.invariant_of-result
invariant_of-result c = record { utf8 = is_utf8-from_IsUtf8 c.args.template.now c.utf8.template; fits = omega arith }
