use Rattle.std.proofs.Common.{◌∙◌, sym, arith}
use Rattle.std.proofs.lemmas.Bool.{false≢true, eq-eqb}
use Rattle.lic_trim.specs.Sources.{chars_of}
use Rattle.lic_trim.specs.Walks.{walked}
use Rattle.lic_trim.proofs.StreakFronts.{front_at, front_after}
use Rattle.lic_trim.proofs.sequences.streak_front.Goals as goal
use Rattle.lic_trim.proofs.sequences.streak_front.Goals.{then-k-first, else-k-first}

pub returns-then-flags-k : goal.returns-then-flags-k
returns-then-flags-k c =
    front_at c.args.flags.now (walked c.args.side (chars_of c.args.line.now)) c.args.k c.args.first c.requires.front
    (λ some low same. elim c.if-k-first.branch [
      | then-k-first w ↦ false≢true (sym c.if-continues.false ∙ w.continues-is ∙ eq-eqb _ _ (w.char_at.ensures ∙ same ∙ sym w.char_at-then-k-first.ensures))
      | else-k-first w ↦ omega arith
    ])
    c.if-flags-k.true

pub returns-else-flags-k : goal.returns-else-flags-k
returns-else-flags-k c =
    front_after c.args.flags.now (walked c.args.side (chars_of c.args.line.now)) c.args.k c.args.first c.requires.front
    (λ some low same. elim c.if-k-first.branch [
      | then-k-first w ↦ false≢true (sym c.if-continues.false ∙ w.continues-is ∙ eq-eqb _ _ (w.char_at.ensures ∙ same ∙ sym w.char_at-then-k-first.ensures))
      | else-k-first w ↦ omega arith
    ])
    c.if-flags-k.false
