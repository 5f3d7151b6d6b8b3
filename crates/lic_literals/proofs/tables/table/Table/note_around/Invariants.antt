-- The windows that begin late enough before the offset are noted.
use Rattle.std.proofs.Common.{◌+◌, ◌<◌, ◌≤◌}
use Rattle.lic_literals.specs.Tables.{NotesWhere}
use Rattle.lic_literals.proofs.tables.table.Table.note_around.Given as goal

abbrev pub invariant-loop-back : goal.invariant-loop-back
invariant-loop-back g l =
    NotesWhere l.self l.bytes (λ p. (p ≤ l.offset) × (l.offset < p + g.row.STEP) × (g.row.STEP + p ≤ l.offset + l.back)) l.initial.hits l.hits
