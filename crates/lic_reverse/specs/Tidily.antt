-- Going back over the words of a pattern in which no two blanks are adjacent: with each place what was taken last is kept.
use Rattle.std.specs.Prelude.{◌≡◌, ◌⊎◌, ℕ, suc, ◌+◌, ◌^◌, ◌≤◌, List, [], ◌∷◌, Option, Some, None, slice_index_or}
use Rattle.lic_words.specs.Words.{Word, Power, blank}
use Rattle.lic_ere.specs.Trees.{tree_of}
use Rattle.lic_ere.specs.declared.ere.Ere.{Ere}
use Rattle.lic_tokens.specs.Tokens.{TokenValue}
use Rattle.lic_places.specs.Reads.{Reads}
use Rattle.lic_spans.specs.declared.span.PlaceSpan.{PlaceSpan}
use Rattle.lic_reverse.specs.declared.ways.Ways.{Ways}
use Rattle.lic_view.specs.PlaceSets.{ArePlaced, Reaches}
use Rattle.lic_view.specs.Backward.{Beats}
use Rattle.lic_view.specs.declared.sets.keep.Keep.{Keep}

-- what was taken last, going back
pub data Taken : Type 0 where
  nothing : Taken
  a_letter : Taken
  a_blank : Taken

-- once this letter or blank is taken: a blank only where a letter was taken last
abbrev pub IsTakenBefore : Taken → ℕ → Taken → Type 0
IsTakenBefore taken c before = ((c ≡ blank) × (taken ≡ a_blank) × (before ≡ a_letter)) ⊎ (¬ (c ≡ blank) × (taken ≡ a_letter))

-- a word, taken from its last letter to its first
abbrev pub IsTakenBack : Taken → Word → Taken → Type 0
IsTakenBack taken [] before = taken ≡ before
IsTakenBack taken (c ∷ w) before = (next : Taken) × IsTakenBefore taken c next × IsTakenBack next w before

-- the spans of ways, by what was taken last
abbrev pub spans_of : Ways → Taken → List PlaceSpan
spans_of ways nothing = ways.nothing.items
spans_of ways a_letter = ways.letter.items
spans_of ways a_blank = ways.blank.items

-- The ways have the places from which a word of the set leads to a place with its last token, each with those last tokens at least that are kept.
pub record IsTidyBackFrom (keep : Keep) (tokens : List TokenValue) (P : Word → Type 0) (Ends : Taken → ℕ → ℕ → Type 0) (begins : Taken → List PlaceSpan) : Type 0 where
  pub placed : (s : Taken) → ArePlaced tokens (begins s)
  pub sound : (s : Taken) (p last : ℕ) → Reaches tokens (begins s) p last
      → (t : Taken) × (q : ℕ) × Ends t q last × (w : Word) × P w × IsTakenBack s w t × Reads tokens p w q
  pub complete : (s t : Taken) (p q last : ℕ) (w : Word) → Ends t q last → P w → IsTakenBack s w t → Reads tokens p w q
      → (other : ℕ) × Beats keep tokens p other last × Reaches tokens (begins s) p other

-- the same from the places of ways
abbrev pub IsTidyBack : Keep → List TokenValue → (Word → Type 0) → (Taken → List PlaceSpan) → (Taken → List PlaceSpan) → Type 0
IsTidyBack keep tokens P ends begins = IsTidyBackFrom keep tokens P (λ t q last. Reaches tokens (ends t) q last) begins

-- up to `count` words of the set in a row
abbrev pub UpTo : (Word → Type 0) → ℕ → Word → Type 0
UpTo P count w = (k : ℕ) × (k ≤ count) × Power P k w

-- how many words there may be beyond the least number: as many as take more bytes than a text has, where there is no end
abbrev pub IsMore : ℕ → Option ℕ → ℕ → Type 0
IsMore min None more = more + 1 ≡ 2 ^ 64
IsMore min (Some max) more = more + min ≡ max

-- all spans lie in the text
abbrev pub AreWays : List TokenValue → Ways → Type 0
AreWays tokens ways = (s : Taken) → ArePlaced tokens (spans_of ways s)

-- the pattern of this number is the one before it once more
abbrev pub IsRepeated : List Ere → ℕ → Type 0
IsRepeated subs number = (before : ℕ) × (number ≡ suc before)
    × ((d : Ere) → tree_of (slice_index_or subs before d) ≡ tree_of (slice_index_or subs number d))
