use Rattle.std.proofs.Common.{◌≡◌, ℕ, ◌+◌, ◌-◌, ◌<◌, ◌≤◌, List, drop, length, take, inl, inr, sym, ap, subst, ◌∙◌, arith}
use Rattle.std.proofs.lemmas.List.{length-drop, take_rest}
use borrow.Rule.Slice.PartMut.{put_mid, put_same}
use Rattle.lic_letters.specs.Simple.{AreDone}
use Rattle.lic_letters.proofs.SpelledFronts.{done_own, done_put_mid}
use Rattle.lic_letters.proofs.wide.spell_on.Goals.{then-own-gt0, else-own-gt0+in_ok-count}
use Rattle.lic_letters.proofs.wide.spell_on.Goals as goal

pub returns-then-count-eq0-clause-done : goal.returns-then-count-eq0-clause-done
returns-then-count-eq0-clause-done c =
    let bytes : List ℕ = c.args.bytes.now in
    let at : ℕ = c.loop-at.at in
    let old : List ℕ = c.loop-at.spelled in
    let none : c.if-own-gt0.count ≡ 0 = c.if-count-eq0.true in
    let same : c.if-own-gt0.spelled ≡ old = elim c.if-own-gt0.branch [
      | then-own-gt0 w ↦ w.spelled-is
      | else-own-gt0+in_ok-count w ↦
          w.spelled-is ∙ ap (put_mid at (length old - at) old) (w.in_ok-count.ensures.same (sym w.count-is ∙ none)) ∙ put_same at (length old - at) old
    ] in
    subst (AreDone bytes at) (sym same) c.loop-at.invariant.1

pub loop-at-preserved : goal.loop-at-preserved
loop-at-preserved c =
    let bytes : List ℕ = c.args.bytes.now in
    let at : ℕ = c.loop-at.at in
    let count : ℕ = c.if-own-gt0.count in
    let old : List ℕ = c.loop-at.spelled in
    let new : List ℕ = c.if-own-gt0.spelled in
    let rest = take (length bytes - at) (drop at bytes) in
    let here = take_rest bytes at in
    let old_done : AreDone bytes at old = c.loop-at.invariant.1 in
    let long = c.loop-at.invariant.2 in
    let new_done : AreDone bytes (at + count) new = elim c.if-own-gt0.branch [
      | then-own-gt0 w ↦
          let n : ℕ = c.own_some-own.result in
          let own = c.own_some-own.ensures.own (omega (arith, w.if-own-gt0.true)) in
          let far : at + n ≤ length old = elim c.requires.copied [
            | inl far ↦ omega (arith, far, c.own_some-own.ensures.few, c.loop-at-test.true, long)
            | inr all ↦ omega (arith, all, own.within, ap length here, length-drop at bytes, long, c.loop-at-test.true, c.requires.within)
          ] in
          subst (λ m. AreDone bytes (at + m) new) (sym w.count-is)
          (subst (AreDone bytes (at + n)) (sym w.spelled-is) (done_own bytes at n rest old old_done here own far))
      | else-own-gt0+in_ok-count w ↦
          let n : ℕ = w.in_ok-count.count in
          let put = w.in_ok-count.ensures in
          let some : 0 < n = omega (arith, w.count-is, c.if-count-eq0.false) in
          subst (λ m. AreDone bytes (at + m) new) (sym w.count-is)
          (subst (AreDone bytes (at + n)) (sym w.spelled-is)
          (done_put_mid bytes at n rest old w.put_first.new.spelled old_done here put.within w.put_first.auto.spelled (put.put some) (put.rest some)))
    ] in
    (omega (arith, c.loop-at.invariant.0), new_done, c.if-own-gt0.auto.spelled ∙ long)
