-- The triples of bundles.
use Rattle.std.specs.Prelude.{◌≡◌, ℕ, ◌+◌, ◌≤◌, ◌==◌, ◌&&◌, ◌||◌, nat_le, max, if◌then◌else◌, List, Option, Some, None, Any, AllPairs, Contains, ◌↔◌}
use Rattle.lic_set.specs.Matches.{precedes, triple_at, IsAfter, AreAscending}
use Rattle.lic_set.specs.declared.triple.Triple.{Triple}
use Rattle.lic_bundles.specs.declared.bundle.Bundle.{Bundle}

-- the triple is one of the bundle's
pub record IsOf (b : Bundle) (t : Triple) : Type 0 where
  pub from : b.from ≤ t.first
  pub to : t.first ≤ b.to
  pub last : t.last ≡ b.last
  pub template : t.template ≡ b.template

-- no triple is of two of the bundles
abbrev pub AreApart : List Bundle → Type 0
AreApart bundles = AllPairs (λ b c. (t : Triple) → IsOf b t → ¬ (IsOf c t)) bundles

-- The list has exactly the triples of the bundles that come after a triple, or all of them, each once, in order.
pub record AreTriples (bundles : List Bundle) (after : Option Triple) (all : List Triple) : Type 0 where
  pub ascending : AreAscending all
  pub exact : (t : Triple) → Contains all t ↔ (Any (λ b. IsOf b t) bundles × IsAfter after t)

-- the first triple of a bundle
abbrev pub first_of : Bundle → Triple
first_of b = triple_at b.from b.last b.template

-- its triples from this first token on, if there are any
abbrev pub part_from : ℕ → Bundle → Option Bundle
part_from first b = if nat_le first b.to then Some (record { from = first; to = b.to; last = b.last; template = b.template }) else None

-- its triples but the first
abbrev pub others_of : Bundle → Option Bundle
others_of b = part_from (b.from + 1) b

-- the first token from which on its triples come after a triple
abbrev pub first_after : Option Triple → Bundle → ℕ
first_after None b = b.from
first_after (Some after) b =
    let first : ℕ = max b.from after.first in if precedes after (triple_at first b.last b.template) then first else first + 1

-- those of its triples that come after a triple
abbrev pub part_after : Option Triple → Bundle → Option Bundle
part_after after b = part_from (first_after after b) b
