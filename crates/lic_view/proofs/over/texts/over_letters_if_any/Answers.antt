use Rattle.std.proofs.Common.{length, subst, sym, ◌∙◌}
use Rattle.std.proofs.lemmas.Bool.{eqb-true}
use Rattle.std.proofs.lemmas.List.{nil_from_length}
use Rattle.lic_view.specs.Backward.{IsBack}
use Rattle.lic_view.proofs.LetterLemmas.{IsWordOf}
use Rattle.lic_view.proofs.TextLemmas.{back-empty}
use Rattle.lic_view.proofs.over.texts.over_letters_if_any.Goals as goal

pub returns-then-is_empty : goal.returns-then-is_empty
returns-then-is_empty c =
    back-empty c.args.keep c.args.view.now c.args.letters.now c.args.spans.items
    (nil_from_length c.args.letters.now (eqb-true (length c.args.letters.now) 0 (sym c.is_empty.ensures ∙ c.if-is_empty.true))) c.requires.placed

pub returns-in_ok-over_letters : goal.returns-in_ok-over_letters
returns-in_ok-over_letters c =
    subst (λ x. IsBack c.args.keep c.args.view.now (IsWordOf c.args.letters.now) x c.in_ok-over_letters.field-0.items) c.deref.ensures.value c.in_ok-over_letters.ensures
