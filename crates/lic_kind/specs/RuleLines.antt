-- The lines of a rules file as values of the code.
use Rattle.std.specs.Prelude.{ℕ, List, Option, Some, None}
use Rattle.std.specs.Borrow.{Bor}
use Rattle.std.specs.Str.{chars}
use Rattle.lic_kind.specs.RuleFiles.{Line, comment, text, items, separators, unknown}
use Rattle.lic_kind.specs.declared.rules.rule_line.RuleLine.{RuleLine}
use Rattle.lic_kind.specs.declared.rules.rule_line.RuleLine.TheVariants.{Comment, Text, Items, Separators, Unknown}

-- the characters of a word, if there is one
abbrev pub read : Option (Bor (List ℕ)) → Option (List ℕ)
read None = None
read (Some word) = Some (chars word.now)

-- what a value of the code says
abbrev pub said : RuleLine → Line
said Comment = comment
said (Text kind following) = text kind (read following)
said (Items on) = items on
said (Separators on) = separators on
said Unknown = unknown
