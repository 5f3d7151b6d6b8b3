-- The windows around one offset more are noted.
use Rattle.std.proofs.Common.{◌+◌, ◌≤◌, sym, ◌∙◌, subst, arith}
use Rattle.std.proofs.lemmas.Bool.{false≢true}
use Rattle.lic_literals.specs.Hashes.{gram_flag, hash_of}
use Rattle.lic_literals.specs.Flags.{Has}
use Rattle.lic_literals.specs.Sizes.{gram_at}
use Rattle.lic_literals.specs.Tables.{NotesWhere}
use Rattle.lic_literals.proofs.TableLemmas.{all_done, all_more, gram_flagged, none_noted}
use Rattle.lic_literals.proofs.tables.table.Table.note_all.Goals as goal
use Rattle.lic_literals.proofs.tables.table.Table.note_all.Goals.{then-has+in_ok-note_around, else-has}

pub loop-offset-preserved : goal.loop-offset-preserved
loop-offset-preserved g c =
    let table = c.args.self.now in
    let bytes = c.args.bytes.now in
    let offset = c.loop-offset.offset in
    let old = c.loop-offset.hits in
    let more = all_more table bytes c.requires.sizes c.args.hits.now old in
    record {
      offset = omega (arith, c.requires.sizes.few, c.requires.sizes.long);
      notes =
          elim c.if-has.branch [
            | then-has+in_ok-note_around w ↦
                subst (NotesWhere table bytes (λ p. p + g.row.STEP ≤ offset + g.row.STEP) c.args.hits.now) (sym w.hits-is)
                (more w.note_around.new.hits w.in_ok-note_around.ensures.kept offset c.loop-offset.invariant.notes
                (λ v i p has occurs a b. w.in_ok-note_around.ensures.found v i p has occurs (a, b)))
            | else-has w ↦
                subst (NotesWhere table bytes (λ p. p + g.row.STEP ≤ offset + g.row.STEP) c.args.hits.now) (sym w.hits-is)
                (more old (λ i p h. h) offset c.loop-offset.invariant.notes
                (λ v i p has occurs a b.
                let flagged : Has table.grams (gram_flag (hash_of (gram_at g.row.GRAM bytes offset))) =
                (gram_flagged table bytes c.requires.sizes v i p offset has occurs a b).anywhere in
                let same : Has table.grams c.flag_of.result =
                subst (Has table.grams) (sym c.flag_of.ensures.value)
                (subst (λ h. Has table.grams (gram_flag h)) (sym c.hash-hash.ensures) flagged) in
                absurd (false≢true (sym w.if-has.false ∙ c.has.ensures.1 same))))
          ];
    }

pub returns-then-is_empty : goal.returns-then-is_empty
returns-then-is_empty g c = none_noted c.args.self.now c.args.bytes.now c.args.hits.now (c.is_empty.ensures.0 c.if-is_empty.true)

pub returns : goal.returns
returns g c =
    all_done c.args.self.now c.args.bytes.now c.requires.sizes c.args.hits.now c.loop-offset.hits c.loop-offset.offset c.loop-offset-test.false c.loop-offset.invariant.notes
