-- The tokens that values of the code hold.
use Rattle.std.specs.Prelude.{List, [], ◌∷◌, Option, Some, None}
use Rattle.lic_lines.specs.Tokens.{Token, token_in}
use Rattle.lic_lines.specs.declared.tokens.FirstToken.{FirstToken}

abbrev pub held : Option FirstToken → List Token
held None = []
held (Some t) = token_in t ∷ []
