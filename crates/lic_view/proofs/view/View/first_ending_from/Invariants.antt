-- Tokens before `low` end before the place, those from `high` on end there or after it.
use Rattle.std.proofs.Common.{ℕ, ◌-◌, ◌<◌, ◌≤◌, length}
use Rattle.lic_tokens.specs.Places.{place_end}
use Rattle.lic_view.proofs.view.View.first_ending_from.Given as goal

abbrev pub decreases-loop-low : goal.decreases-loop-low
decreases-loop-low l = l.high - l.low

abbrev pub invariant-loop-low : goal.invariant-loop-low
invariant-loop-low l = record {
  order : l.low ≤ l.high;
  within : l.high ≤ length l.self;
  before : (i : ℕ) → i < l.low → place_end l.self i < l.place;
  reached : (i : ℕ) → l.high ≤ i → i < length l.self → l.place ≤ place_end l.self i;
}
