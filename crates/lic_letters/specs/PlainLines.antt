-- Lines at the start of bytes of which nothing but white space is taken.
use Rattle.std.specs.Prelude.{◌≡◌, ◌≢◌, ◌⊎◌, ℕ, List, [], ◌∷◌, ◌++◌, All, chars, IsUtf8}
use Rattle.lic_kind.specs.LineRules.{LineRules}
use Rattle.lic_trim.specs.Lines.{cut_of, whole_line}
use Rattle.lic_trim.specs.Sources.{placed}
use Rattle.lic_trim.specs.Spaces.{TakesSpaces}
use Rattle.lic_letters.specs.Simple.{TakeSpaces}

-- a text that ends in its first U+000A, and of which nothing but white space is taken
pub record IsPlainLine (rules : LineRules) (line : List ℕ) : Type 0 where
  pub front : List ℕ
  pub no_feed : All (λ b. b ≢ 0x0A) front
  pub ends : line ≡ front ++ 0x0A ∷ []
  pub utf8 : IsUtf8 line
  pub takes : TakesSpaces (cut_of rules whole_line (chars line)) (chars line)

-- a text of such lines
pub record ArePlainLines (rules : LineRules) (lines : List ℕ) : Type 0 where
  pub utf8 : IsUtf8 lines
  pub ended : (lines ≡ []) ⊎ ((front : List ℕ) × (lines ≡ front ++ 0x0A ∷ []))
  pub takes : (at : ℕ) → TakeSpaces rules (placed at (chars lines))
