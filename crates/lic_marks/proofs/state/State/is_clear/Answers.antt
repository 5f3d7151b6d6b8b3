use Rattle.std.proofs.Common.{inl, [], ◌∷◌}
use Rattle.lic_marks.specs.Cores.{WordsOf}
use Rattle.lic_marks.specs.Representing.{After}
use Rattle.lic_marks.proofs.StateLemmas.{nothing_left}
use Rattle.lic_marks.proofs.state.State.is_clear.Goals as goal

pub returns : goal.returns
returns c = λ r letters s h.
    nothing_left r (After (WordsOf r) letters) (λ v follows. c.is_dead.ensures r (letters ∷ []) s h v (inl follows))
