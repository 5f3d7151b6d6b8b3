-- Lines that a reader takes, and their tokens.
use Rattle.std.proofs.Common.{◌≡◌, ℕ, List, ap, ◌∙◌}
use Rattle.lic_kind.specs.LineRules.{LineRules}
use Rattle.lic_trim.specs.Lines.{whole_line}
use Rattle.lic_trim.specs.Sources.{without_dropped}
use Rattle.lic_lines.specs.Tokens.{Token, line_tokens}
use Rattle.lic_trim.specs.declared.source.SourceChar.{SourceChar}
use Rattle.lic_norm.specs.Sources.{source_of}
use Rattle.lic_norm.specs.Tokens.{line_tokens_of}

-- the tokens of a line, by its characters
pub line_tokens_of-is : (rules : LineRules) (at : ℕ) (line : List ℕ) (characters : List SourceChar)
    (tokens : List Token) → tokens ≡ line_tokens rules whole_line characters
    → characters ≡ without_dropped (source_of at line) → tokens ≡ line_tokens_of rules at line
unfolding line_tokens_of
line_tokens_of-is rules at line characters tokens are kept = are ∙ ap (line_tokens rules whole_line) kept
