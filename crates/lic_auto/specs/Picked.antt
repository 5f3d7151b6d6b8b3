-- Templates that were picked from a set by their numbers.
use Rattle.std.specs.Prelude.{◌≡◌, ℕ, ◌<◌, ◌≤◌, List, Option, Some, None, length, Contains}
use Rattle.std.specs.List.{slice_get}
use Rattle.lic_words.specs.Describing.{IsDescribed}
use Rattle.lic_set.specs.Sets.{Known, words_of}

-- every template of the set has one of these numbers
abbrev pub AreAll : List Known → List ℕ → Type 0
AreAll set numbers = (k : ℕ) → k < length set → Contains numbers k

-- no template of another number describes the tokens
abbrev pub OthersFail : List Known → List ℕ → List (List ℕ) → Type 0
OthersFail set numbers ts = (k : ℕ) (known : Known) → ¬ (Contains numbers k) → slice_get set k ≡ Some known
    → ¬ (IsDescribed (words_of known) ts)

-- none of these numbers, from the one up to the other, is that of a template that describes the tokens
abbrev pub NoneOfDescribes : List Known → List ℕ → List (List ℕ) → ℕ → ℕ → Type 0
NoneOfDescribes set numbers ts from end =
    (k : ℕ) (known : Known) → Contains numbers k → from ≤ k → k < end → slice_get set k ≡ Some known
    → ¬ (IsDescribed (words_of known) ts)

-- the least of these numbers, from this one on, of a template that describes the tokens
abbrev pub IsLeastOf : List Known → List ℕ → List (List ℕ) → ℕ → Option ℕ → Type 0
IsLeastOf set numbers ts from None = (end : ℕ) → NoneOfDescribes set numbers ts from end
IsLeastOf set numbers ts from (Some k) =
    Contains numbers k × (from ≤ k)
    × ((known : Known) × (slice_get set k ≡ Some known) × IsDescribed (words_of known) ts)
    × NoneOfDescribes set numbers ts from k
