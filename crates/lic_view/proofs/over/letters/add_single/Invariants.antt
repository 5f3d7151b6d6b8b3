use Rattle.lic_view.proofs.LetterLemmas.{IsWordOf}
use Rattle.lic_view.proofs.Numbers.{AddsBelow}
use Rattle.lic_view.proofs.over.letters.add_single.Given as goal

-- where the letters begin that end at the numbers so far was added
abbrev pub invariant-loop-end : goal.invariant-loop-end
invariant-loop-end l = AddsBelow l.keep l.view (IsWordOf l.letters) l.span l.end l.fn.found.items l.found.items
