use Rattle.std.proofs.Common.{◌≡◌, ℕ, ◌<◌, false, get_or}
use Rattle.std.specs.Char.{is_whitespace}
use Rattle.lic_trim.proofs.ascii_cut.first_space.Given as goal

abbrev pub invariant-loop-index : goal.invariant-loop-index
invariant-loop-index l = (k : ℕ) → k < l.index → is_whitespace (get_or l.line k 0) ≡ false
