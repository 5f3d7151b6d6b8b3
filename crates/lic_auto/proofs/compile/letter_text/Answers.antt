use Rattle.std.proofs.Common.{◌≡◌, [], ◌∷◌, ◌++◌, ap, ◌∙◌}
use Rattle.lic_marks.specs.Cores.{one}
use Rattle.lic_marks.specs.Nodes.{core_of, passes}
use Rattle.lic_auto.proofs.Taken.{measured-push}
use Rattle.lic_auto.proofs.Texts.{letter_taken, core_put}
use Rattle.lic_auto.proofs.compile.letter_text.Goals as goal

pub returns-in_ok-push-in-Letter-clause-words : goal.returns-in_ok-push-in-Letter-clause-words
returns-in_ok-push-in-Letter-clause-words c =
    letter_taken _ _ c.in-Letter.letter _ c.in-Letter.is
    (c.in_ok-push-in-Letter.ensures.items ∙ ap (λ s. s ++ c.in-Letter.letter ∷ []) c.new-text.ensures.items)

pub returns-in_ok-push-in_default : goal.returns-in_ok-push-in_default
returns-in_ok-push-in_default c =
    let core = c.one.ensures.core in
    let same = c.in_default.test-is in
    let core : core_of c.one.result ≡ one (passes c.args.test) = cc in
    record {
      measured = measured-push _ _ _ c.in_ok-push-in_default.ensures.items c.requires c.one.ensures.measured;
      words = core_put _ _ _ _ _ core c.in_ok-push-in_default.ensures.items c.new-text.ensures.items;
    }
