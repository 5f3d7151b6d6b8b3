-- What contracts see of a text.
use Rattle.std.specs.Prelude.{ℕ, List}
use Rattle.lic_tokens.specs.Tokens.{TokenValue}

-- a source, and its tokens
pub record TextValue : Type 0 where
  pub source : List ℕ
  pub tokens : List TokenValue
