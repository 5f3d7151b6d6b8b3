use Rattle.std.proofs.Common.{◌≡◌, Bool, true, false, not, refl}
use Rattle.lic_marks.proofs.Cuts.{and_left, and_right}
use Rattle.lic_marks.proofs.StateLemmas.{none_go_on}
use Rattle.lic_marks.proofs.state.State.is_dead.Goals as goal

not_so : (b : Bool) → not b ≡ true → b ≡ false
not_so true h = cc
not_so false h = refl

pub returns : goal.returns
returns c = λ r lists s h v follows.
    let entry = c.args.self.now.entry in
    none_go_on r entry _ _ (not_so entry (and_left (not entry) c.is_clear.result h)) (c.is_clear.ensures.0 (and_right (not entry) c.is_clear.result h))
    v (s.now.complete v follows)
