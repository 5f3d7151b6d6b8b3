use Rattle.lic_view.proofs.BlankLemmas.{IsBlank}
use Rattle.lic_view.proofs.Numbers.{AddsBelow}
use Rattle.lic_view.proofs.over.blanks.add_moved.Given as goal

-- the places to which a blank leads from the numbers so far were added
abbrev pub invariant-loop-number : goal.invariant-loop-number
invariant-loop-number l = AddsBelow l.keep l.view IsBlank l.span l.number l.fn.found.items l.found.items
