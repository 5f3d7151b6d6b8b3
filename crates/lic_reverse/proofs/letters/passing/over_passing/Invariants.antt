use Rattle.std.proofs.Common.{take}
use Rattle.lic_ere.specs.Trees.{tree_of}
use Rattle.lic_view.specs.Backward.{IsBack}
use Rattle.lic_reverse.specs.Passing.{IsPassing, passes_of}
use Rattle.lic_reverse.proofs.letters.passing.over_passing.Given as goal

-- the places to which a letter that passes leads from the spans so far were found
abbrev pub invariant-loop-span : goal.invariant-loop-span
invariant-loop-span l = IsBack l.keep l.view (IsPassing (passes_of (tree_of l.ere))) (take l.span-index l.spans) l.found.items
