use Rattle.std.proofs.Common.{◌≡◌, ℕ, ◌<◌, ◌≤◌, get_or}
use Rattle.lic_rows.proofs.words.clear_from.Given as goal

abbrev pub invariant-rest : goal.invariant-rest
invariant-rest l = ((j : ℕ) → j ≤ l.first → get_or l.row j 0 ≡ get_or l.initial.row j 0) × ((j : ℕ) → l.first < j → j < l.k → get_or l.row j 0 ≡ 0)
