use Rattle.std.proofs.Common.{◌≡◌, ℕ, ◌/◌, ◌<◌, true}
use Rattle.lic_rows.specs.Bits.{has}
use Rattle.lic_rows.proofs.words.has_fresh.Given as goal

abbrev pub invariant-loop-at : goal.invariant-loop-at
invariant-loop-at l = (b : ℕ) → b / 64 < l.at → has l.other b ≡ true → has l.row b ≡ true
