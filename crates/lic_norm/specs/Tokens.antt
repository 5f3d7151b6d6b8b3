-- From an input to its tokens.
use Rattle.std.specs.Prelude.{ℕ, List, map}
use Rattle.lic_trim.specs.Sources.{without_dropped}
use Rattle.lic_kind.specs.LineRules.{LineRules}
use Rattle.lic_trim.specs.Lines.{whole_line}
use Rattle.lic_lines.specs.Tokens.{Token, line_tokens, text_tokens}
use Rattle.lic_phrases.specs.Rewriting.{Phrase, rewritten}
pub use Rattle.lic_tokens.specs.Tokens.{TokenValue, reported}
use Rattle.lic_norm.specs.Sources.{source_of}

-- the tokens of bytes that begin at this byte of the input, by these line rules, before the rewriting
unfoldable pub first_tokens_of : LineRules → ℕ → List ℕ → List Token
first_tokens_of rules at bytes = text_tokens rules (source_of at bytes)

-- those of one whole line
unfoldable pub line_tokens_of : LineRules → ℕ → List ℕ → List Token
line_tokens_of rules at line = line_tokens rules whole_line (without_dropped (source_of at line))

-- the tokens of an input, by these line rules and with these phrases
abbrev pub tokens_of : LineRules → List Phrase → List ℕ → List TokenValue
tokens_of rules words input = map reported (rewritten words (first_tokens_of rules 0 input))
