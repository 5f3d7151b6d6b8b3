use Rattle.lic_ere.specs.Trees.{tree_of}
use Rattle.lic_reverse.specs.Passing.{IsPassing, passes_of}
use Rattle.lic_view.proofs.WideLemmas.{AddsListed}
use Rattle.lic_reverse.proofs.letters.passing.add_wide.Given as goal

-- where letters lead to the listed places so far was added
abbrev pub invariant-loop-number : goal.invariant-loop-number
invariant-loop-number l = AddsListed l.keep l.view (IsPassing (passes_of (tree_of l.ere))) l.span l.ends l.number l.fn.found.items l.found.items
