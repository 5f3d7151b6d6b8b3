-- Which texts of a side a way begins with, as a mask.
use Rattle.std.specs.Prelude.{◌≡◌, ℕ, ◌<◌, true, false, List, [], length, slice_index, slice_index_or}
use Rattle.lic_kind.specs.LineRules.{LineRules}
use Rattle.lic_trim.specs.PieceLengths.{has_bit}
use Rattle.lic_trim.specs.Walks.{Side, walked, side_texts, side_spaced, side_repeated, begins_with_text, may_begin_with_any}

-- a way that begins with these two characters, or with the first alone
pub record BeginsWithTwo (c d : ℕ) (way : List ℕ) : Type 0 where
  pub some : 0 < length way
  pub first : c ≡ slice_index way 0
  pub second : 1 < length way → d ≡ slice_index way 1

-- the mask has bit i if the way begins with text i
pub record HasBits (mask : ℕ) (side : Side) (way : List ℕ) (texts : List (List ℕ)) : Type 0 where
  pub each : (i : ℕ) → i < length texts → begins_with_text way (walked side (slice_index_or texts i [])) ≡ true → has_bit mask i ≡ true

-- it has those of the texts of a side; with no bit the way begins with none of another kind, and none begins in white space either
pub record HasBegun (rules : LineRules) (side : Side) (way : List ℕ) (mask : ℕ) : Type 0 where
  pub texts : HasBits mask side way (side_texts rules side)
  pub spaced : mask ≡ 0 → HasBits 0 side way (side_spaced rules side)
  pub repeated : mask ≡ 0 → HasBits 0 side way (side_repeated rules side)
  pub closed : mask ≡ 0 → may_begin_with_any rules side way ≡ false
