-- Which neighbours belong to one group, as a value of the code.
use Rattle.std.specs.Prelude.{Bool}
use Rattle.lic_lines.specs.Cells.{Cell}
use Rattle.lic_lines.specs.Streaks.{same_mark, same_family}
use Rattle.lic_lines.specs.Tokens.{both_words}
use Rattle.lic_lines.specs.declared.streaks.Grouping.{Grouping}
use Rattle.lic_lines.specs.declared.streaks.Grouping.TheVariants.{SameMark, SameFamily, Words}

abbrev pub together : Grouping → Cell → Cell → Bool
together SameMark = same_mark
together SameFamily = same_family
together Words = both_words
