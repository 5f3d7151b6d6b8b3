-- What a call for the next match gives, and what it takes.
use Rattle.std.specs.Prelude.{◌≡◌, ◌+◌, ◌-◌, ◌*◌, ◌^◌, ◌<◌, ◌≤◌, Option, None}
use Rattle.std.specs.Iterator.{YieldsFirst}
use Rattle.std.specs.Option.{option_or}
use Rattle.lic_find.specs.Bounds.{letters_of, letters_of_matches}
use Rattle.lic_find.specs.Remaining.{remaining_matches, set_in, tokens_in, numbers_in, began_after, last_given, HasAllMatches, steps_taken}
use Rattle.lic_set.specs.declared.triple.Triple.{Triple}
use Rattle.lic_find.specs.declared.finder.Finder.{Finder}

-- The first of the matches that are left is given. At most two walks over the tokens are taken for it; where there is none, and the
-- search began with the first match and is for all matches, the letters of the text and of the longest match from each first token have been counted.
pub record GivesMatch (old : Finder) (item : Option Triple) (new : Finder) : Type 0 where
  pub first : YieldsFirst remaining_matches old item new
  pub templates : set_in new ≡ set_in old
  pub text : tokens_in new ≡ tokens_in old
  pub numbers : numbers_in new ≡ numbers_in old
  pub began : began_after new ≡ began_after old
  pub given : last_given new ≡ option_or item (last_given old)
  pub never_fall : steps_taken old ≤ steps_taken new
  pub most : steps_taken new ≤ steps_taken old + 4 * (letters_of (tokens_in old) + 1)
  pub least : item ≡ None → began_after old ≡ None → HasAllMatches old → steps_taken new < 2 ^ 64 - 1
      → letters_of (tokens_in old) + letters_of_matches (set_in old) (tokens_in old) ≤ steps_taken new
