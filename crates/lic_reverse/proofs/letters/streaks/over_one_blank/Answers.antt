use Rattle.std.proofs.Common.{subst}
use Rattle.lic_view.specs.Backward.{IsBack}
use Rattle.lic_reverse.specs.Tidily.{a_letter, spans_of}
use Rattle.lic_view.proofs.BlankLemmas.{IsBlank}
use Rattle.lic_reverse.proofs.TidyStreaks.{tidy-blank}
use Rattle.lic_reverse.proofs.letters.streaks.over_one_blank.Goals as goal

pub over_blanks-requires : goal.over_blanks-requires
over_blanks-requires c = rw c.deref.ensures.value (c.requires a_letter)

pub returns : goal.returns
returns c =
    tidy-blank c.args.keep c.args.view.now (spans_of c.args.ways.now) _ c.new.ensures.items c.new-2.ensures.items
    (subst (λ x. IsBack c.args.keep c.args.view.now IsBlank x c.in_ok-over_blanks.field-0.items) c.deref.ensures.value c.in_ok-over_blanks.ensures)
