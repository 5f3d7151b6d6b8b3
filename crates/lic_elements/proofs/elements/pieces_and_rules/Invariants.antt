use Rattle.std.proofs.Common.{[], length, map}
use Rattle.lic_ere.specs.Located.{located}
use Rattle.lic_elements.specs.Elements.{elements}
use Rattle.lic_elements.specs.Pieces.{EndsWith, characters}
use Rattle.lic_elements.specs.Views.{element_of}
use Rattle.lic_elements.proofs.ElementLemmas.{HasCut}
use Rattle.lic_elements.proofs.elements.pieces_and_rules.Given as goal

-- the elements so far and those from the piece on are all
abbrev pub invariant-loop-sign : goal.invariant-loop-sign
invariant-loop-sign l =
    record {
      ends : EndsWith l.piece l.rest;
      cut : HasCut (map element_of l.found.items) (characters l.piece) (characters l.rest) (elements [] 0 (located l.text));
    }

abbrev pub decreases-loop-sign : goal.decreases-loop-sign
decreases-loop-sign l = length (characters l.rest)
