-- Matches of a set's templates among which there is one within each match.
use Rattle.std.specs.Prelude.{◌≡◌, ℕ, ◌≤◌, ◌⊎◌, List, Contains}
use Rattle.lic_norm.specs.Tokens.{TokenValue}
use Rattle.lic_set.specs.Sets.{Known}
use Rattle.lic_set.specs.Matches.{IsMatch}
use Rattle.lic_set.specs.declared.triple.Triple.{Triple}

-- one of the triples has the template of t, and its range lies within that of t
abbrev pub HoldsWithin : List Triple → Triple → Type 0
HoldsWithin found t = (s : Triple) × Contains found s × (s.template ≡ t.template) × (t.first ≤ s.first) × (s.last ≤ t.last)

-- The triples are matches, and within each match of the templates of these numbers lies one of them.
pub record HasLeastOf (set : List Known) (tokens : List TokenValue) (numbers : List ℕ) (found : List Triple) : Type 0 where
  pub sound : (t : Triple) → Contains found t → IsMatch set tokens t
  pub within : (t : Triple) → IsMatch set tokens t → Contains numbers t.template → HoldsWithin found t

-- the same for the templates of all numbers
pub record HasLeastMatches (set : List Known) (tokens : List TokenValue) (found : List Triple) : Type 0 where
  pub sound : (t : Triple) → Contains found t → IsMatch set tokens t
  pub within : (t : Triple) → IsMatch set tokens t → HoldsWithin found t

-- Matches were added, so that within each match of the template of this number lies one.
pub record AddsLeast (set : List Known) (tokens : List TokenValue) (number : ℕ) (old new : List Triple) : Type 0 where
  pub sound : (t : Triple) → Contains new t → Contains old t ⊎ IsMatch set tokens t
  pub kept : (t : Triple) → Contains old t → Contains new t
  pub within : (t : Triple) → IsMatch set tokens t → t.template ≡ number → HoldsWithin new t
