-- The grams up to this one are flagged.
use Rattle.std.proofs.Common.{◌≡◌, ℕ, ◌<◌, List}
use Rattle.lic_literals.specs.Sizes.{gram_at}
use Rattle.lic_literals.specs.Tables.{IsFlagged, number_of}
use Rattle.lic_literals.proofs.tables.table.Table.flag.Given as goal

abbrev pub invariant-loop-start : goal.invariant-loop-start
invariant-loop-start g l = record {
  flagged : (start : ℕ) → start < l.start → IsFlagged l.self (gram_at g.row.GRAM l.window start) start;
  kept : (gram : List ℕ) (start : ℕ) → IsFlagged l.initial.self gram start → IsFlagged l.self gram start;
  numbers : (w : List ℕ) → number_of l.self w ≡ number_of l.initial.self w;
}
