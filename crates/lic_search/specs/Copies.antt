-- Optional parts that are copies of one text.
use Rattle.std.specs.Prelude.{◌↔◌, ℕ, ◌≤◌, List, drop, map}
use Rattle.std.specs.Str.{chars}
use Rattle.lic_words.specs.Words.{Cat, Word}
use Rattle.lic_words.specs.Expressions.{Language, letters}
use Rattle.lic_markup.specs.declared.part.Part.{Part}
use Rattle.lic_markup.specs.Meaning.{parts_words}
use Rattle.lic_markup.specs.Parts.{part_of}
use Rattle.lic_reverse.specs.Tidily.{UpTo}

-- the words of the parts from one on
abbrev pub words_from : List Part → ℕ → Word → Type 0
words_from parts first = Language (parts_words (map part_of (drop first parts)))

-- The parts from the first up to an end are copies of a text, at most `count`, and none of them need be there.
pub record AreCopies (parts : List Part) (end : ℕ) (text : List ℕ) (first count : ℕ) : Type 0 where
  pub within : first ≤ end
  pub words : (w : Word) → words_from parts first w ↔ Cat (UpTo (Language (letters (chars text))) count) (words_from parts end) w
