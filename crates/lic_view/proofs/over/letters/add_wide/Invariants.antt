use Rattle.lic_view.proofs.LetterLemmas.{IsWordOf}
use Rattle.lic_view.proofs.WideLemmas.{AddsListed}
use Rattle.lic_view.proofs.over.letters.add_wide.Given as goal

-- where the letters begin that end at the listed places so far was added
abbrev pub invariant-loop-number : goal.invariant-loop-number
invariant-loop-number l = AddsListed l.keep l.view (IsWordOf l.letters) l.span l.ends l.number l.fn.found.items l.found.items
