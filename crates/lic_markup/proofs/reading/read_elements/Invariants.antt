use Rattle.std.proofs.Common.{◌≡◌, map, reverse, vec_len}
use Rattle.lic_kind.specs.LineRules.{rules_of}
use Rattle.lic_markup.specs.Reading.{start, read_on}
use Rattle.lic_markup.specs.ReadTexts.{HasReadTexts}
use Rattle.lic_markup.specs.Views.{placed_of, state_of}
use Rattle.lic_markup.proofs.reading.read_elements.Given as goal

-- what is left, read from the state so far, gives what all gives
abbrev pub invariant-loop-element : goal.invariant-loop-element
invariant-loop-element l =
    record {
      gives : read_on (rules_of l.rules) l.words (state_of l.reader) (map placed_of (reverse l.elements.items))
          ≡ read_on (rules_of l.rules) l.words start (map placed_of (reverse l.fn.elements.items));
      texts : HasReadTexts (state_of l.reader);
    }

abbrev pub decreases-loop-element : goal.decreases-loop-element
decreases-loop-element l = vec_len l.elements
