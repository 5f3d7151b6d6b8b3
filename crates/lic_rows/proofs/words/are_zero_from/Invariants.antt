use Rattle.std.proofs.Common.{◌≡◌, ℕ, ◌<◌, ◌≤◌, length, ◌-◌, get_or}
use Rattle.lic_rows.proofs.words.are_zero_from.Given as goal

abbrev pub invariant-lanes : goal.invariant-lanes
invariant-lanes l = (l.from ≤ l.at) × ((k : ℕ) → l.from ≤ k → k < l.at → get_or l.row k 0 ≡ 0)

abbrev pub decreases-lanes : goal.decreases-lanes
decreases-lanes l = length l.row - l.at

abbrev pub invariant-rest : goal.invariant-rest
invariant-rest l = (l.from ≤ l.at) × ((k : ℕ) → l.from ≤ k → k < l.at → get_or l.row k 0 ≡ 0)

abbrev pub decreases-rest : goal.decreases-rest
decreases-rest l = length l.row - l.at
