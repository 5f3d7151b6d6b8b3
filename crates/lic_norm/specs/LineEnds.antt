-- The first line of an input or a text.
use Rattle.std.specs.Prelude.{◌≡◌, ◌≢◌, ◌⊎◌, ℕ, List, [], ◌∷◌, ◌++◌, All}

-- These are the bytes or the characters of a first line, before the rest: up to the first U+000A, or all where there is none.
pub record IsFirstLine (line : List ℕ) (rest : List ℕ) : Type 0 where
  pub front : List ℕ
  pub no_end : All (λ c. c ≢ 0x0A) front
  pub ends : (line ≡ front ++ 0x0A ∷ []) ⊎ ((line ≡ front) × (rest ≡ []))
