-- Whether spans have one of the places of a cut.
use Rattle.std.proofs.Common.{inl, inr, [], ◌∙◌, sym, subst}
use Rattle.std.proofs.lemmas.Bool.{false≢true}
use Rattle.lic_view.specs.PlaceSets.{Reaches}
use Rattle.lic_vars.specs.Cuts.{ReadsFrom}
use Rattle.lic_vars.proofs.StepOverLemmas.{cut-places, letter-here}
use Rattle.lic_vars.proofs.cut.have_cut.Goals as goal

pub returns-else-have_place : goal.returns-else-have_place
returns-else-have_place c =
    let tokens = c.args.view.now in
    let spans = c.args.spans.now in
    let here = letter-here tokens c.tokens_have_texts.ensures c.args.cut c.requires.open in (
      λ is.
          let found = c.have_place-else-have_place.ensures.0 is in
          (c.letter_place.result, found.0, subst (λ p. ReadsFrom tokens c.args.cut [] p) (sym c.letter_place.ensures) here, found.1),
      λ found. elim (cut-places tokens c.tokens_have_texts.ensures c.args.cut found.0 found.2) [
        | inl same ↦ absurd (false≢true (sym c.if-have_place.false
            ∙ c.have_place.ensures.1 (found.1, subst (λ p. Reaches tokens spans p found.1) same found.3)))
        | inr same ↦ c.have_place-else-have_place.ensures.1
            (found.1, subst (λ p. Reaches tokens spans p found.1) (same ∙ sym c.letter_place.ensures) found.3)
      ],
    )
