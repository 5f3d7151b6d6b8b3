use Rattle.std.proofs.Common.{take}
use Rattle.lic_view.specs.Backward.{IsBack}
use Rattle.lic_view.proofs.BlankLemmas.{IsBlank}
use Rattle.lic_view.proofs.over.blanks.over_blanks.Given as goal

-- the places to which a blank leads from the spans so far were found
abbrev pub invariant-loop-span : goal.invariant-loop-span
invariant-loop-span l = IsBack l.keep l.view IsBlank (take l.span-index l.spans) l.found.items
