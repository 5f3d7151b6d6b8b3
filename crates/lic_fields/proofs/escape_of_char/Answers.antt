use Rattle.std.proofs.Common.{arith}
use Rattle.std.proofs.lemmas.Bool.Decides.{nat_tests}
use Rattle.lic_fields.proofs.Characters.{escaped-other}
use Rattle.lic_fields.proofs.escape_of_char.Goals as goal

pub returns-else-is_ascii : goal.returns-else-is_ascii
returns-else-is_ascii c = escaped-other c.args.c (grind (arith, nat_tests))
