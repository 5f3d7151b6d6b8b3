-- The first token that ends there begins there too, or the next one does.
use Rattle.std.proofs.Common.{arith}
use Rattle.lic_view.proofs.ViewPlaces.{begins-next, begins-same}
use Rattle.lic_view.proofs.view.View.first_beginning_from.Goals as goal
use Rattle.lic_view.proofs.view.View.first_beginning_from.Goals.{else-token-len-via-then-token-len+else-start-place, else-token-len-via-else-token-len}

pub returns-then-start-place : goal.returns-then-start-place
returns-then-start-place c =
    begins-next c.args.self.now c.args.place c.first_ending_from-token.result c.tokens_have_texts.ensures c.first_ending_from-token.ensures (omega arith) (omega arith)

pub returns-else-token-len : goal.returns-else-token-len
returns-else-token-len c =
    begins-same c.args.self.now c.args.place c.first_ending_from-token.result c.tokens_have_texts.ensures c.first_ending_from-token.ensures
    (λ within. elim c.else-token-len.branch [ else-token-len-via-then-token-len+else-start-place w ↦ omega arith | else-token-len-via-else-token-len w ↦ absurd (omega arith) ])
