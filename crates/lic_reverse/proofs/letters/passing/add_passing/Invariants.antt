use Rattle.lic_ere.specs.Trees.{tree_of}
use Rattle.lic_reverse.specs.Passing.{IsPassing, passes_of}
use Rattle.lic_view.proofs.Numbers.{AddsBelow}
use Rattle.lic_reverse.proofs.letters.passing.add_passing.Given as goal

-- the places to which a letter that passes leads from the numbers so far were added
abbrev pub invariant-loop-number : goal.invariant-loop-number
invariant-loop-number l = AddsBelow l.keep l.view (IsPassing (passes_of (tree_of l.ere))) l.span l.number l.fn.found.items l.found.items
