use Rattle.std.proofs.Common.{All, List, ap, subst}
use Rattle.std.specs.Str.{IsUtf8}
use Rattle.lic_tokens.specs.Tokens.{TokenValue}
use Rattle.lic_norm.proofs.text.tokens_are_utf8.Goals as goal

pub returns : goal.returns
returns c = subst (λ (ts : List TokenValue). All (λ t. IsUtf8 t.text) ts) (ap (λ t. t.tokens) c.text.view_is) c.texts_are_utf8.ensures
