use Rattle.std.proofs.Common.{◌≡◌, true, length, eqb, vec_len}
use Rattle.lic_ere.specs.Views.{left}
use Rattle.lic_ere.proofs.BracketLemmas.{following, members_of}
use Rattle.lic_ere.proofs.lexeme.brackets.members.Given as goal

-- the members so far and those that are left are all
abbrev pub invariant-loop-first : goal.invariant-loop-first
invariant-loop-first l =
    following l.members.items (members_of l.offset (eqb (vec_len l.members) 0) (left l.rest)) ≡ members_of l.offset true (left l.all)

abbrev pub decreases-loop-first : goal.decreases-loop-first
decreases-loop-first l = length (left l.rest)
