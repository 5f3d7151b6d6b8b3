-- Expressions and lists of tokens read from the end.
use Rattle.std.specs.Prelude.{ℕ, List, map, reverse}
use Rattle.lic_words.specs.Expressions.{Expression, empty, one, cat, none, alt, repeat, tidy}

-- the expression whose words are read from the last letter to the first
abbrev pub reversed_expression : Expression → Expression
reversed_expression empty = empty
reversed_expression (one passes) = one passes
reversed_expression (cat a b) = cat (reversed_expression b) (reversed_expression a)
reversed_expression none = none
reversed_expression (alt a b) = alt (reversed_expression a) (reversed_expression b)
reversed_expression (repeat min max a) = repeat min max (reversed_expression a)
reversed_expression (tidy a) = tidy (reversed_expression a)

-- the tokens from the last to the first, each from its last letter to its first
abbrev pub reversed_tokens : List (List ℕ) → List (List ℕ)
reversed_tokens ts = reverse (map reverse ts)
