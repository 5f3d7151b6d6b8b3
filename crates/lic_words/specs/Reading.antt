-- What an iterator over the letters of a token has left to give.
use Rattle.std.specs.Prelude.{◌≡◌, ℕ, Bool, List, Option, reverse}
use Rattle.std.specs.Iterator.{YieldsFirstBy}
use Rattle.std.specs.Str.{chars}
use Rattle.lic_words.specs.Spelling.{Gap, gap_of, gapped_from, last_letter, apart_after}
use Rattle.lic_words.specs.declared.letters.Letter.{Letter}
use Rattle.lic_words.specs.declared.letters.Letters.{Letters}
use Rattle.lic_words.specs.declared.reversed_letters.ReversedLetters.{ReversedLetters}

-- a letter with the gap before it
abbrev pub gapped_letter : Letter → Gap × ℕ
gapped_letter letter = (gap_of letter.is_apart letter.are_words, letter.letter)

-- the letters that are left, each with the gap before it
abbrev pub letters_left : Letters → List (Gap × ℕ)
letters_left s = gapped_from s.last s.is_apart (chars s.rest.now)

-- the letter that will be the last
abbrev pub last_in : Letters → ℕ
last_in s = last_letter s.last (chars s.rest.now)

-- whether a gap will come after the last letter
abbrev pub is_apart_in : Letters → Bool
is_apart_in s = apart_after s.is_apart (chars s.rest.now)

-- the first of the letters that are left is given, and what will be last stays
pub record GivesLetter (old : Letters) (item : Option Letter) (new : Letters) : Type 0 where
  pub first : YieldsFirstBy gapped_letter letters_left old item new
  pub last : last_in new ≡ last_in old
  pub apart : is_apart_in new ≡ is_apart_in old

-- ---- from the last letter to the first

-- the letters that are left, each with the gap before it as it is read
abbrev pub reversed_letters_left : ReversedLetters → List (Gap × ℕ)
reversed_letters_left s = gapped_from s.last s.is_apart (reverse (chars s.rest.now))

-- the letter that will be the last
abbrev pub reversed_last_in : ReversedLetters → ℕ
reversed_last_in s = last_letter s.last (reverse (chars s.rest.now))

-- the first of the letters that are left is given, and what will be last stays
pub record GivesTurnedLetter (old : ReversedLetters) (item : Option Letter) (new : ReversedLetters) : Type 0 where
  pub first : YieldsFirstBy gapped_letter reversed_letters_left old item new
  pub last : reversed_last_in new ≡ reversed_last_in old
