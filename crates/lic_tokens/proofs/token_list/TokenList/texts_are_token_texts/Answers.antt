use Rattle.std.proofs.Common.{List, subst}
use Rattle.lic_tokens.specs.Tokens.{AreTokenTexts, TokenValue}
use Rattle.lic_tokens.proofs.token_list.TokenList.texts_are_token_texts.Goals as goal

pub returns : goal.returns
returns c = subst (λ (ts : List TokenValue). AreTokenTexts ts) c.self.view_is c.self.invariant.0.texts
