-- Which lists of tokens an expression describes.
use Rattle.std.specs.Prelude.{◌≡◌, ℕ, List, []}
use Rattle.lic_words.specs.Words.{Word}
use Rattle.lic_words.specs.Expressions.{Expression, Language}
use Rattle.lic_words.specs.Spelling.{Spells}

-- the list is not empty, and some word that the expression denotes spells it
abbrev pub IsDescribed : Expression → List (List ℕ) → Type 0
IsDescribed expression ts = (ts ≡ [] → ⊥) × (w : Word) × Language expression w × Spells w ts
