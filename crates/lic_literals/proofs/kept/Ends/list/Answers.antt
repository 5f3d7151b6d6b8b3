-- One end more, if it is within the limit.
use Rattle.std.proofs.Common.{◌+◌, ◌<◌, [], ◌∷◌, ◌++◌, get_or, refl, sym, ap, ◌∙◌, arith}
use Rattle.std.proofs.lemmas.Bool.{le-leb, lt-leb}
use Rattle.lic_literals.proofs.KeptLemmas.{shifted_in, shifted_out}
use Rattle.lic_literals.proofs.kept.Ends.list.Goals as goal
use Rattle.lic_literals.proofs.kept.Ends.list.Goals.{then-offset-self+then-self-offset+in_ok-push, else-offset-self, else-offset-self-via-then-offset-self+else-self-offset, else-offset-self-via-else-offset-self}

pub loop-offset-preserved : goal.loop-offset-preserved
loop-offset-preserved c =
    let by = c.args.self.now.to_end in
    let limit = c.args.self.now.limit in
    let offsets = c.offsets-offset-items.result.now in
    let i = c.loop-offset.offset-index in
    let p = get_or offsets i 0 in
    elim c.if-offset-self.branch [
      | then-offset-self+then-self-offset+in_ok-push w ↦
          ap (λ list. list.items) w.ends-is ∙ w.in_ok-push.ensures.items ∙ ap (λ ends. ends ++ (p + by) ∷ []) c.loop-offset.invariant
          ∙ sym (shifted_in by limit offsets i p c.loop-offset-test.true refl (le-leb (p + by) limit (omega arith)))
      | else-offset-self w ↦
          let past : limit < p + by =
          elim w.else-offset-self.branch [
            | else-offset-self-via-then-offset-self+else-self-offset u ↦ omega arith
            | else-offset-self-via-else-offset-self u ↦ omega arith
          ] in
          ap (λ list. list.items) w.ends-is ∙ c.loop-offset.invariant ∙ sym (shifted_out by limit offsets i p c.loop-offset-test.true refl (lt-leb (p + by) limit past))
    ]
