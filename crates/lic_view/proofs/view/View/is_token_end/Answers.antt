-- A token that ends at the place is the first one that ends there or after it.
use Rattle.std.proofs.Common.{sym, ◌∙◌, arith, eq-eqb}
use Rattle.std.proofs.lemmas.Bool.{eqb-true}
use Rattle.lic_view.proofs.ViewPlaces.{token_end-first}
use Rattle.lic_view.proofs.view.View.is_token_end.Goals as goal

pub returns-then-token-len : goal.returns-then-token-len
returns-then-token-len c = (
  λ ends. record { number = c.first_ending_from-token.result; within = omega arith; ends = sym (eqb-true _ _ ends) ∙ c.end.ensures },
  λ ends. eq-eqb _ _ (c.end.ensures ∙ (token_end-first c.args.self.now c.args.place c.first_ending_from-token.result c.tokens_have_texts.ensures c.first_ending_from-token.ensures ends).1),
)
