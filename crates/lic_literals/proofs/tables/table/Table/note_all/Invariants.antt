-- The windows that begin early enough before the offset are noted.
use Rattle.std.proofs.Common.{◌+◌, ◌-◌, ◌≤◌, length}
use Rattle.lic_literals.specs.Tables.{NotesWhere}
use Rattle.lic_literals.proofs.tables.table.Table.note_all.Given as goal

abbrev pub invariant-loop-offset : goal.invariant-loop-offset
invariant-loop-offset g l = record {
  offset : l.offset ≤ length l.bytes + 8;
  notes : NotesWhere l.self l.bytes (λ p. p + g.row.STEP ≤ l.offset) l.initial.hits l.hits;
}

abbrev pub decreases-loop-offset : goal.decreases-loop-offset
decreases-loop-offset g l = length l.bytes + 9 - l.offset
