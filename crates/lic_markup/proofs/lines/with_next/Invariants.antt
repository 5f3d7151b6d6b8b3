use Rattle.std.proofs.Common.{◌≡◌, ◌++◌, map, reverse, vec_len}
use Rattle.lic_markup.specs.Lines.{line_ends_in, next_of, with_next}
use Rattle.lic_elements.specs.Views.{element_of}
use Rattle.lic_markup.specs.Views.{placed_of}
use Rattle.lic_markup.proofs.LineLemmas.{passed}
use Rattle.lic_markup.proofs.lines.with_next.Given as goal

-- the elements from the end on that were passed have what follows them
abbrev pub invariant-loop-element : goal.invariant-loop-element
invariant-loop-element l =
    record {
      all : map element_of l.elements.items ++ passed (map placed_of (reverse l.placed.items)) ≡ map element_of l.fn.elements.items;
      placed : map placed_of (reverse l.placed.items) ≡ with_next (passed (map placed_of (reverse l.placed.items)));
      line_ends : l.line_ends ≡ line_ends_in (passed (map placed_of (reverse l.placed.items)));
      next : l.next ≡ next_of (passed (map placed_of (reverse l.placed.items)));
    }

abbrev pub decreases-loop-element : goal.decreases-loop-element
decreases-loop-element l = vec_len l.elements
