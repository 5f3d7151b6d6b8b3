-- Patterns of one letter.
use Rattle.std.specs.Prelude.{◌≡◌, ◌==◌, ℕ, Bool, true, false, [], ◌∷◌}
use Rattle.lic_words.specs.Words.{Word, blank}
use Rattle.lic_ere.specs.Sets.{is_in}
use Rattle.lic_ere.specs.Trees.{Tree, empty, char, any, set, cat, alt, repeat}

-- whether a pattern is one letter of some kind
abbrev pub is_one : Tree → Bool
is_one empty = false
is_one (char c) = true
is_one any = true
is_one (set brackets) = true
is_one (cat ts) = false
is_one (alt ts) = false
is_one (repeat t min max) = false

-- whether a pattern of one letter has this one
abbrev pub passes_of : Tree → ℕ → Bool
passes_of empty = λ _. false
passes_of (char c) = λ d. d == c
passes_of any = λ _. true
passes_of (set brackets) = is_in brackets
passes_of (cat ts) = λ _. false
passes_of (alt ts) = λ _. false
passes_of (repeat t min max) = λ _. false

-- the word of a letter that passes and is no blank
abbrev pub IsPassing : (ℕ → Bool) → Word → Type 0
IsPassing passes w = (c : ℕ) × ¬ (c ≡ blank) × (passes c ≡ true) × (w ≡ c ∷ [])
