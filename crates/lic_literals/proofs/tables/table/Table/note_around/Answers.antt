-- A window that begins one offset earlier is noted, if it is there.
use Rattle.std.proofs.Common.{◌≡◌, ℕ, ◌+◌, ◌-◌, sym, ◌∙◌, subst, arith}
use Rattle.std.proofs.lemmas.Bool.{false≢true}
use Rattle.lic_literals.specs.Hashes.{hash_of, start_flag}
use Rattle.lic_literals.specs.Flags.{Has}
use Rattle.lic_literals.specs.Sizes.{gram_at}
use Rattle.lic_literals.specs.Tables.{NotesWhere}
use Rattle.lic_literals.proofs.TableLemmas.{IsLate, around_more, gram_flagged}
use Rattle.lic_literals.proofs.tables.table.Table.note_around.Goals as goal
use Rattle.lic_literals.proofs.tables.table.Table.note_around.Goals.{then-start-offset+then-has+in_ok-note_at, else-start-offset, else-start-offset-via-then-start-offset+else-has, else-start-offset-via-else-start-offset}

pub loop-back-preserved : goal.loop-back-preserved
loop-back-preserved g c =
    let table = c.args.self.now in
    let bytes = c.args.bytes.now in
    let offset = c.args.offset in
    let old = c.loop-back.hits in
    let more = around_more table bytes c.requires.sizes c.args.hits.now old in
    elim c.if-start-offset.branch [
      | then-start-offset+then-has+in_ok-note_at w ↦
          subst (λ hits. NotesWhere table bytes (IsLate table bytes c.requires.sizes offset (c.loop-back.back + 1)) c.args.hits.now hits) (sym w.hits-is)
          (more w.note_at.new.hits w.in_ok-note_at.ensures.kept offset c.loop-back.back c.loop-back.invariant
          (λ v i p has occurs a b here. w.in_ok-note_at.ensures.found v i p has occurs (omega arith)))
      | else-start-offset w ↦
          subst (λ hits. NotesWhere table bytes (IsLate table bytes c.requires.sizes offset (c.loop-back.back + 1)) c.args.hits.now hits) (sym w.hits-is)
          (more old (λ i p h. h) offset c.loop-back.back c.loop-back.invariant
          (λ v i p has occurs a b here.
          let start : ℕ = g.row.STEP - 1 - c.loop-back.back in
          let at : offset - p ≡ start = omega arith in
          let flagged = gram_flagged table bytes c.requires.sizes v i p offset has occurs a b in
          absurd
          (elim w.else-start-offset.branch [
            | else-start-offset-via-then-start-offset+else-has u ↦
                let flag : start_flag c.args.hash start ≡ u.start_flag_of.result = sym u.start_flag_of.ensures.value in
                let there : Has table.starts (start_flag (hash_of (gram_at g.row.GRAM bytes offset)) (offset - p)) = flagged.there in
                let same : Has table.starts u.start_flag_of.result =
                subst (Has table.starts) flag
                (subst (λ s. Has table.starts (start_flag c.args.hash s)) at
                (subst (λ h. Has table.starts (start_flag h (offset - p))) (sym c.requires.hash) there)) in
                false≢true (sym u.if-has.false ∙ u.has.ensures.1 same)
            | else-start-offset-via-else-start-offset u ↦ omega arith
          ])))
    ]

pub returns : goal.returns
returns g c = record {
  found = λ w i p has occurs (a, b). c.loop-back.invariant.found w i p has occurs (a, b, omega arith);
  kept = c.loop-back.invariant.kept;
}
