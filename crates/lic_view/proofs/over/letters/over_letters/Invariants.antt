use Rattle.std.proofs.Common.{take}
use Rattle.lic_view.specs.Backward.{IsBack}
use Rattle.lic_view.proofs.LetterLemmas.{IsWordOf}
use Rattle.lic_view.proofs.over.letters.over_letters.Given as goal

-- where the letters begin that end at places of the spans so far was found
abbrev pub invariant-loop-span : goal.invariant-loop-span
invariant-loop-span l = IsBack l.keep l.view (IsWordOf l.letters) (take l.span-index l.spans) l.found.items
