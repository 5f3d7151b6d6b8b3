-- What the texts of a template's parts are like.
use Rattle.std.specs.Prelude.{◌≡◌, ℕ, ◌<◌, ◌≤◌, List, length, map, IsUtf8}
use Rattle.lic_phrases.specs.PieceTexts.{IsPieceText}
use Rattle.lic_markup.specs.declared.part.Part.{Part}
use Rattle.lic_markup.specs.Parts.{Node, Nodes, letters, variable, optional, no_node, one_more, sequence, part_of, weight_of, GiveToken}

abbrev mutual
  -- each text has a letter and is in UTF-8, and each of its blanks that is neither first nor last is between two
  -- letters of kind Word
  pub HasPieceTexts : Node → Type 0
  HasPieceTexts (letters text) = (0 < length text) × IsUtf8 text × IsPieceText text
  HasPieceTexts (variable name original pattern) = Unit {0}
  HasPieceTexts (optional ns) = HavePieceTexts ns

  pub HavePieceTexts : Nodes → Type 0
  HavePieceTexts no_node = Unit {0}
  HavePieceTexts (one_more n ns) = HasPieceTexts n × HavePieceTexts ns

-- what every template keeps, of its parts and its weight
pub record IsKept (parts : List Part) (weight : ℕ) : Type 0 where
  pub texts : HavePieceTexts (sequence (map part_of parts))
  pub weighed : weight ≡ weight_of parts
  pub light : weight ≤ 131072
  pub some_token : GiveToken parts
