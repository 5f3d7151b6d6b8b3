-- What the lines of matches in one file are made of, and what is kept of it.
use Rattle.std.specs.Prelude.{◌≡◌, ℕ, List, Some, nat_eq}
use Rattle.std.specs.HashMap.{HashMap, get}
use Rattle.lic_set.specs.Sets.{Known}
use Rattle.lic_report.specs.Report.{match_prefix}

-- the name of a file, and the templates whose matches are reported
pub record Named : Type 0 where
  pub name : List ℕ
  pub set : List Known

-- under each number is what the lines of the template of this number begin with
abbrev pub ArePrefixes : {V S : Type 0} → (V → List ℕ) → List ℕ → List Known → HashMap ℕ V S → Type 0
ArePrefixes bytes name set prefixes = (k : ℕ) (front : _) → get nat_eq prefixes k ≡ Some front → bytes front ≡ match_prefix name set k
