-- The matches of the templates of some numbers.
use Rattle.std.specs.Prelude.{ℕ, ◌↔◌, List, Option, Contains}
use Rattle.lic_norm.specs.Tokens.{TokenValue}
use Rattle.lic_set.specs.Sets.{Known}
use Rattle.lic_set.specs.Matches.{AreAscending, IsAfter, IsMatch}
use Rattle.lic_set.specs.declared.triple.Triple.{Triple}

-- a match whose template has one of these numbers
abbrev pub IsMatchAmong : List Known → List TokenValue → List ℕ → Triple → Type 0
IsMatchAmong set tokens numbers t = IsMatch set tokens t × Contains numbers t.template

-- the template of each match has one of these numbers
abbrev pub HaveAllMatches : List Known → List TokenValue → List ℕ → Type 0
HaveAllMatches set tokens numbers = (t : Triple) → IsMatch set tokens t → Contains numbers t.template

-- The list has exactly the matches of the templates of these numbers after a triple, or all of them, each once, in order.
pub record AreMatchesAmong (set : List Known) (tokens : List TokenValue) (numbers : List ℕ) (after : Option Triple)
    (found : List Triple) : Type 0 where
  pub ascending : AreAscending found
  pub exact : (t : Triple) → Contains found t ↔ (IsMatch set tokens t × Contains numbers t.template × IsAfter after t)
