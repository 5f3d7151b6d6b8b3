-- Long separators, which are leapt over.
use Rattle.std.specs.Prelude.{◌≡◌, ◌≢◌, ℕ, ◌+◌, ◌-◌, ◌^◌, ◌<◌, ◌≤◌, true, List, length, slice_index}
use Rattle.lic_kind.specs.Kinds.{kind_of, is_mark_kind}
use Rattle.lic_kind.specs.LineRules.{LineRules}
use Rattle.lic_trim.specs.Walks.{Side, AreShort}

-- `count` of one same mark are here and no more, and they are a separator of more than 16
pub record IsLongStreak (rules : LineRules) (way : List ℕ) (at count : ℕ) : Type 0 where
  pub separators : rules.separators ≡ true
  pub mark : is_mark_kind (kind_of (slice_index way at)) ≡ true
  pub long : 16 < count
  pub within : at + count ≤ length way
  pub same : (i : ℕ) → i < count → slice_index way (at + i) ≡ slice_index way at
  pub stop : at + count < length way → slice_index way (at + count) ≢ slice_index way at

-- An index three further or more on the streak that is here, which ends one index further from there than any text reaches; bit d is
-- set exactly if the index d further is not beyond that end.
pub record IsLeap (rules : LineRules) (side : Side) (way : List ℕ) (at far ends : ℕ) : Type 0 where
  pub reach : ℕ
  pub short : AreShort rules side reach
  pub small : reach < 62
  pub count : ℕ
  pub streak : IsLongStreak rules way at count
  pub beyond : at + 3 ≤ far
  pub end : far + (reach + 1) ≡ at + count
  pub bits : ends ≡ 2 ^ (reach + 2) - 1
