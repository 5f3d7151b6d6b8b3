use Rattle.std.proofs.Common.{refl, rules}
use Rattle.std.proofs.Output.{has_written_append, has_written_of_eq}
use Rattle.lic_fields.proofs.Characters.{escaped-push}
use Rattle.lic_fields.proofs.EscapedDisplay.fmt.Goals as goal

pub loop-c-preserved : goal.loop-c-preserved
loop-c-preserved g c plain =
    has_written_of_eq _ _ _ _ _ (escaped-push _ _ _ refl)
    (has_written_append _ _ _ _ _ _ (c.loop-c.invariant plain) (search rules))
