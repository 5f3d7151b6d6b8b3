-- Sets of words that have the empty word and no other.
use Rattle.std.specs.Prelude.{◌≡◌, ◌↔◌, []}
use Rattle.lic_words.specs.Words.{Word}
use Rattle.lic_words.specs.Expressions.{Expression, Language}

-- the empty word is a word of the set, and no other is
abbrev pub HasEmptyWordAlone : Expression → Type 0
HasEmptyWordAlone e = (w : Word) → Language e w ↔ (w ≡ [])
