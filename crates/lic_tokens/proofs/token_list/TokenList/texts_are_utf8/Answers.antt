use Rattle.std.proofs.Common.{All, List, subst}
use Rattle.std.specs.Str.{IsUtf8}
use Rattle.lic_tokens.specs.Tokens.{TokenValue}
use Rattle.lic_tokens.proofs.token_list.TokenList.texts_are_utf8.Goals as goal

pub returns : goal.returns
returns c = subst (λ (ts : List TokenValue). All (λ t. IsUtf8 t.text) ts) c.self.view_is c.self.invariant.0.utf8
