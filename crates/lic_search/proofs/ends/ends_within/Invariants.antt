-- The ends after the places so far are listed.
use Rattle.lic_search.proofs.EndLists.{ListsEndsAfter}
use Rattle.lic_search.proofs.ends.ends_within.Given as goal

abbrev pub invariant-loop-place : goal.invariant-loop-place
invariant-loop-place l = ListsEndsAfter l.view l.places l.most l.place-index l.next l.ends.items
