-- What the arguments ask for.
use Rattle.std.specs.Prelude.{◌≡◌, ℕ, ◌<◌, List, length, slice_index_or, Option, Some, None, string_bytes}
use Rattle.lic_set.specs.Sets.{Known}
use Rattle.lic_set.specs.declared.triple.Triple.{Triple}
use Rattle.lic_arguments.specs.declared.after.After.{After}
use Rattle.lic_arguments.specs.declared.fault.ArgumentFault.{ArgumentFault}
use Rattle.lic_arguments.specs.declared.fault.ArgumentFault.TheVariants.{NoTemplate, Memory}

-- the template with this number has this identifier
abbrev pub IsNamed : List Known → List ℕ → ℕ → Type 0
IsNamed set id k = (k < length set) × ((d : Known) → (slice_index_or set k d).id ≡ id)

-- a triple is asked for exactly where one is given: the same tokens, and the template of the identifier
abbrev pub IsTripleOf : List Known → Option After → Option Triple → Type 0
IsTripleOf set None None = Unit {0}
IsTripleOf set (Some after) (Some triple) =
    (triple.first ≡ after.first) × (triple.last ≡ after.last) × IsNamed set after.id.now triple.template
IsTripleOf set _ _ = ⊥

-- why nothing can be asked: no template has the identifier that is given, which the fault names; or memory ran out
abbrev pub IsUnnamed : List Known → Option After → ArgumentFault → Type 0
IsUnnamed set after Memory = Unit {0}
IsUnnamed set (Some after) (NoTemplate id) =
    (string_bytes id ≡ after.id.now) × ((k : ℕ) → ¬ (IsNamed set after.id.now k))
IsUnnamed set _ _ = ⊥
