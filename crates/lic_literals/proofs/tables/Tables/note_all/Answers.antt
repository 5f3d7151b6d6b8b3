-- Each table notes its windows.
use Rattle.std.proofs.lemmas.Result.{IfOk-weaker}
use Rattle.lic_literals.specs.Tables.{NotesWhere}
use Rattle.lic_literals.specs.Windows.{NotesKeys}
use Rattle.lic_literals.proofs.WindowLemmas.{keys_noted}
use Rattle.lic_literals.proofs.tables.Tables.note_all.Goals as goal

pub returns : goal.returns
returns c =
    let tables = c.args.self.now in
    let bytes = c.args.bytes.now in
    IfOk-weaker c.note_all-3.result
    (λ _. NotesWhere tables.short bytes (λ _. Unit {0}) c.note_all-2.new.hits c.note_all-3.new.hits)
    (λ _. NotesKeys tables bytes c.args.hits.now c.note_all-3.new.hits)
    (λ _ third.
    keys_noted tables bytes c.args.hits.now c.note_all.new.hits c.note_all-2.new.hits c.note_all-3.new.hits c.in_ok-note_all.ensures c.in_ok-note_all-2.ensures third)
    c.note_all-3.ensures
