-- What the code keeps while it walks over a line from one side.
use Rattle.std.specs.Prelude.{◌≡◌, ◌≢◌, ℕ, zero, suc, ◌-◌, ◌<◌, ◌≤◌, Bool, true, false, ◌&&◌, ◌||◌, ◌==◌, List, [], ◌∷◌, length, take, reverse, slice_index, slice_index_or, slice_range, bytes_eq}
use Rattle.std.specs.List.{All, list_any}
use Rattle.std.specs.Char.{is_whitespace}
use Rattle.lic_trim.specs.Texts.{is_sequence, ends_in}
use Rattle.lic_kind.specs.LineRules.{LineRules}
use Rattle.lic_trim.specs.Lines.{is_lead_piece, is_tail_piece, repeats}
pub use Rattle.lic_trim.specs.declared.side.Side.{Side}
pub use Rattle.lic_trim.specs.declared.side.Side.TheVariants.{Front, End}

-- a text as it is met on the way from a side
abbrev pub walked : Side → List ℕ → List ℕ
walked Front text = text
walked End text = reverse text

-- the pieces of a lead, or on the way from the end those of a tail
abbrev pub is_walked_piece : LineRules → Side → List ℕ → Bool
is_walked_piece rules Front text = is_lead_piece rules text
is_walked_piece rules End text = is_tail_piece rules (reverse text)

-- the texts that are pieces
abbrev pub side_texts : LineRules → Side → List (List ℕ)
side_texts rules Front = rules.lead
side_texts rules End = rules.tail

-- the texts that are pieces with a white space character, the last on the way
abbrev pub side_spaced : LineRules → Side → List (List ℕ)
side_spaced rules Front = rules.lead_space
side_spaced rules End = rules.tail_space

-- the texts that are pieces with their first character once or more
abbrev pub side_repeated : LineRules → Side → List (List ℕ)
side_repeated rules Front = []
side_repeated rules End = rules.tail_repeat

-- the texts of this side have at most this many characters
pub record AreShort (rules : LineRules) (side : Side) (reach : ℕ) : Type 0 where
  pub texts : All (λ t. length t ≤ reach) (side_texts rules side)
  pub spaced : All (λ t. length t ≤ reach) (side_spaced rules side)
  pub repeated : All (λ t. length t ≤ reach) (side_repeated rules side)

-- whether this way begins with a text
abbrev pub begins_with_text : List ℕ → List ℕ → Bool
begins_with_text way [] = true
begins_with_text [] (c ∷ text) = false
begins_with_text (d ∷ way) (c ∷ text) = (d == c) && begins_with_text way text

-- whether a text begins in white space, or this way begins with it
abbrev pub may_begin_with : List ℕ → List ℕ → Bool
may_begin_with way [] = false
may_begin_with way (c ∷ text) = is_whitespace c || begins_with_text way (c ∷ text)

-- whether one of the texts of this side does, on the way
abbrev pub may_begin_with_any : LineRules → Side → List ℕ → Bool
may_begin_with_any rules side way = list_any (λ t. may_begin_with way (walked side t)) (side_texts rules side)
    || (list_any (λ t. may_begin_with way (walked side t)) (side_spaced rules side)
    || list_any (λ t. may_begin_with way (walked side t)) (side_repeated rules side))

-- whether some number below n passes
abbrev pub any_below : (ℕ → Bool) → ℕ → Bool
any_below test zero = false
any_below test (suc n) = test n || any_below test n

-- whether a piece ends here that begins at one of the flagged indices
abbrev pub ends_piece : (List ℕ → Bool) → List Bool → List ℕ → ℕ → Bool
ends_piece is_piece flags line end =
    any_below (λ j. slice_index_or flags j false && is_piece (slice_range line j end)) end

-- the flags say of each front of the line, up to a length, whether it is a sequence
pub record AreSequences (is_piece : List ℕ → Bool) (flags : List Bool) (line : List ℕ) : Type 0 where
  pub each : (k : ℕ) → k < length flags → slice_index_or flags k false ≡ is_sequence is_piece (take k line)

-- from first on all characters before end are one; no flagged index before it has that, and it is flagged itself
pub record IsStreakFront (flags : List Bool) (line : List ℕ) (end first : ℕ) : Type 0 where
  pub within : first ≤ end
  pub same : (i : ℕ) → first ≤ i → i < end → slice_index line i ≡ slice_index line (end - 1)
  pub flagged : first < end → slice_index_or flags first false ≡ true
  pub least : (j : ℕ) → j < first → j < end → slice_index_or flags j false ≡ true
      → (i : ℕ) × (j ≤ i) × (i < end) × (slice_index line i ≢ slice_index line (end - 1))

-- whether this text and a white space character end here, after one of the flagged indices
unfoldable pub spaced_text_ends : List Bool → List ℕ → ℕ → List ℕ → Bool
spaced_text_ends flags line end text = ends_piece (ends_in is_whitespace (bytes_eq text)) flags line end

-- whether this text, met from its end on, its first character once or more, ends here after one of the flagged indices
unfoldable pub repeat_ends : List Bool → List ℕ → ℕ → List ℕ → Bool
repeat_ends flags line end text = ends_piece (λ part. repeats text (reverse part)) flags line end
