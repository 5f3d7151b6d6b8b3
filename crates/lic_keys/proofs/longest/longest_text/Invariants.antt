-- The longest text so far.
use Rattle.lic_keys.proofs.LongestLemmas.{IsLongest}
use Rattle.lic_keys.proofs.longest.longest_text.Given as goal

abbrev pub invariant-loop-number : goal.invariant-loop-number
invariant-loop-number l = IsLongest l.parts l.number l.longest
