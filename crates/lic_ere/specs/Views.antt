-- What the values of the code represent.
use Rattle.std.specs.Prelude.{List, map, reverse, chars}
use Rattle.lic_ere.specs.declared.lexeme.Lexeme.{Lexeme}
use Rattle.lic_ere.specs.declared.lexeme.Lexeme.TheVariants as coded
use Rattle.lic_ere.specs.declared.remaining.Remaining.{Remaining}
use Rattle.lic_ere.specs.Located.{Located, located_from}
use Rattle.lic_ere.specs.Trees.{tree_of}
use Rattle.lic_ere.specs.Lexemes as lexemes
use Rattle.lic_ere.specs.declared.level.LastUnit.{LastUnit}
use Rattle.lic_ere.specs.declared.level.LastUnit.TheVariants as levels
use Rattle.lic_ere.specs.declared.level.GroupLevel.{GroupLevel}
use Rattle.lic_ere.specs.declared.reader.PatternReader.{PatternReader}
use Rattle.lic_ere.specs.Reading as reading

-- the characters that are left
abbrev pub left : Remaining → List Located
left r = located_from r.offset (chars r.text.now)

-- what is read, and the characters after it
abbrev pub seen : {A : Type 0} → A × Remaining → A × List Located
seen x = (x.0, left x.1)

abbrev pub lexeme_of : Lexeme → lexemes.Lexeme
lexeme_of (coded.Unit unit) = lexemes.unit (tree_of unit)
lexeme_of (coded.Sign b) = lexemes.sign b
lexeme_of coded.Opening = lexemes.opening
lexeme_of coded.Closing = lexemes.closing
lexeme_of coded.Bar = lexemes.bar
lexeme_of coded.Anchor = lexemes.anchor

abbrev pub last_of : LastUnit → reading.LastUnit
last_of levels.None = reading.no_unit
last_of (levels.Single unit) = reading.single (tree_of unit)
last_of (levels.Repeated unit) = reading.repeated (tree_of unit)

abbrev pub level_of : GroupLevel → reading.GroupLevel
level_of l =
    record {
      offset = l.offset;
      alternatives = map tree_of l.alternatives.items;
      before = map tree_of l.before.items;
      last = last_of l.last;
    }

-- the levels from the inside out
abbrev pub levels_of : List GroupLevel → List reading.GroupLevel
levels_of ls = reverse (map level_of ls)

abbrev pub state_of : PatternReader → reading.State
state_of r = record { level = level_of r.level; outer = levels_of r.outer.items }
