use Rattle.std.proofs.Common.{true, sym, subst}
use Rattle.lic_view.specs.Backward.{IsBack}
use Rattle.lic_places.specs.Texts.{IsBlankIf}
use Rattle.lic_view.proofs.over.texts.over_blank_if.Goals as goal

pub returns-in_ok-over_blanks : goal.returns-in_ok-over_blanks
returns-in_ok-over_blanks c =
    subst (λ b. IsBack c.args.keep c.args.view.now (IsBlankIf b) c.args.spans.items c.in_ok-over_blanks.field-0.items) (sym c.if-has_blank.true)
    (subst (λ x. IsBack c.args.keep c.args.view.now (IsBlankIf true) x c.in_ok-over_blanks.field-0.items) c.deref.ensures.value c.in_ok-over_blanks.ensures)
