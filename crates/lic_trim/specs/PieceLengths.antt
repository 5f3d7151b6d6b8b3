-- How long the pieces are that a way begins with, as bits of a mask.
use Rattle.std.specs.Prelude.{ℕ, suc, Bool, false, ◌≡◌, ◌<◌, ◌&&◌, ◌==◌, nat_lt, nat_le, List, [], ◌∷◌, length, take, reverse, slice_index}
use Rattle.std.specs.Char.{is_whitespace}
pub use Rattle.lic_kind.specs.Beginnings.{has_bit}
use Rattle.lic_kind.specs.LineRules.{LineRules}
use Rattle.lic_trim.specs.Lines.{is_separator}
use Rattle.lic_trim.specs.Walks.{Side, is_walked_piece, begins_with_text}

-- whether this way begins with the text, which has n characters
abbrev pub begins_with_length : ℕ → List ℕ → List ℕ → Bool
begins_with_length n way text = begins_with_text way text && (length text == n)

-- whether this way begins with a separator of n characters, where separators are pieces
abbrev pub begins_with_separator : Bool → ℕ → List ℕ → Bool
begins_with_separator separators n way = nat_le n (length way) && (separators && is_separator (take n way))

-- whether this way begins with the text and a white space character, n characters in all
abbrev pub begins_with_spaced : ℕ → List ℕ → List ℕ → Bool
begins_with_spaced n way text = begins_with_text way text && (is_whitespace (slice_index way (length text)) && (suc (length text) == n))

-- whether this way begins with the text, met from its end on, and continues with its first character once more
abbrev pub continues : List ℕ → List ℕ → Bool
continues way [] = false
continues way (c ∷ text) =
    begins_with_text way (reverse (c ∷ text)) && (nat_lt (suc (length text)) (length way) && (slice_index way (suc (length text)) == c))

-- bit n is set exactly if the way begins with a piece of n characters
pub record AreLengths (rules : LineRules) (side : Side) (way : List ℕ) (mask : ℕ) : Type 0 where
  pub each : (n : ℕ) → 0 < n → has_bit mask n ≡ (nat_le n (length way) && is_walked_piece rules side (take n way))
