-- Templates that cannot be ruled out, and where a text of each ends.
use Rattle.std.specs.Prelude.{◌≡◌, ◌&&◌, ℕ, ◌-◌, ◌<◌, nat_le, Bool, List, Some, length, slice_range, IfSome}
use Rattle.std.specs.List.Sorted.{IsStrictlyIncreasing}
use Rattle.std.specs.Str.{bytes_eq}
use Rattle.lic_literals.specs.Ends.{EndsAt}
use Rattle.lic_literals.specs.Kept.{MayEndAt, ends_of}
use Rattle.lic_literals.specs.declared.kept.Kept.{Kept}
use Rattle.lic_keys.specs.Keys.{KeysValue, letters_of, text_of}

-- the candidate may end at each place at which the letters end, and the places at which it may end, if they are known, rise
pub record KeepsEnds (bytes letters : List ℕ) (candidate : Kept) : Type 0 where
  pub all : (e : ℕ) → EndsAt bytes letters e → MayEndAt candidate e
  pub rising : IfSome (ends_of candidate) IsStrictlyIncreasing

-- one of the templates, whose text, if it has one, may end where it does
pub record IsCandidateIn (keys : KeysValue) (bytes : List ℕ) (candidate : Kept) : Type 0 where
  pub below : candidate.number < length keys.texts
  pub ends : (part : ℕ) → text_of keys candidate.number ≡ Some part → KeepsEnds bytes (letters_of keys candidate.number) candidate

-- whether the letters end at a place
abbrev pub ends_at : List ℕ → List ℕ → ℕ → Bool
ends_at bytes letters end = nat_le (length letters) end && (nat_le end (length bytes) && bytes_eq (slice_range bytes (end - length letters) end) letters)
