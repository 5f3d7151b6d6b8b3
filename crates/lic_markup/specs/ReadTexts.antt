-- What the texts are like that a reader has so far.
use Rattle.std.specs.Prelude.{List, [], ◌∷◌}
use Rattle.lic_markup.specs.Parts.{sequence}
use Rattle.lic_markup.specs.PartTexts.{HavePieceTexts}
use Rattle.lic_markup.specs.Reading.{PartLevel, State}

-- the texts of these levels are such as pieces have
abbrev pub HoldPieceTexts : List PartLevel → Type 0
HoldPieceTexts [] = Unit {0}
HoldPieceTexts (l ∷ ls) = HavePieceTexts (sequence l.parts) × HoldPieceTexts ls

-- so are those of the innermost level and of all levels round it
abbrev pub HasReadTexts : State → Type 0
HasReadTexts s = HavePieceTexts (sequence s.level.parts) × HoldPieceTexts s.outer
