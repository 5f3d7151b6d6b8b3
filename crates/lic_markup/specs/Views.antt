-- What the values of the code represent.
use Rattle.std.specs.Prelude.{List, map, reverse}
use Rattle.std.specs.String.{string_bytes}
use Rattle.lic_pieces.specs.declared.pieces.Next.{Next}
use Rattle.lic_elements.specs.declared.elements.Element.{Element}
use Rattle.lic_elements.specs.Elements as elements
use Rattle.lic_elements.specs.Views.{element_of}
use Rattle.lic_markup.specs.declared.reader.PartLevel.{PartLevel}
use Rattle.lic_markup.specs.declared.reader.TemplateReader.{TemplateReader}
use Rattle.lic_markup.specs.Parts.{part_of}
use Rattle.lic_markup.specs.Reading as reading

-- an element with what follows it in its line
abbrev pub placed_of : Element × Next → elements.Element × Next
placed_of p = (element_of p.0, p.1)

abbrev pub level_of : PartLevel → reading.PartLevel
level_of l = record { offset = l.offset; parts = map part_of l.parts.items }

-- the levels from the inside out
abbrev pub levels_of : List PartLevel → List reading.PartLevel
levels_of ls = reverse (map level_of ls)

abbrev pub state_of : TemplateReader → reading.State
state_of r =
    record {
      level = level_of r.level;
      outer = levels_of r.outer.items;
      original = string_bytes r.original;
      at_start = r.at_start;
    }
