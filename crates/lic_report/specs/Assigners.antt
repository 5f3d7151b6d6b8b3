-- What a report keeps of the templates that had a match.
use Rattle.std.specs.Prelude.{◌≡◌, ℕ, List, Some, nat_eq}
use Rattle.std.specs.HashMap.{HashMap, get}
use Rattle.lic_set.specs.Sets.{Known}
use Rattle.lic_vars.specs.Assigners.{AssignerValue}

-- under each number is the assigner of the template of this number
abbrev pub AreAssigners : {S : Type 0} → List Known → HashMap ℕ AssignerValue S → Type 0
AreAssigners set made = (k : ℕ) (a : AssignerValue) → get nat_eq made k ≡ Some a
    → a ≡ record { set = set; template = k }
