use Rattle.std.proofs.Common.{ap, ◌∙◌}
use Rattle.lic_marks.specs.Cores.{cat_all}
use Rattle.lic_marks.specs.Nodes.{letter_cores}
use Rattle.lic_auto.proofs.Texts.{letter_joined}
use Rattle.lic_auto.proofs.compile.push_joined.Goals as goal

pub returns-clause-words : goal.returns-clause-words
returns-clause-words c =
    rw c.in-Some-pop.ensures.items (letter_joined _ _ _ _ _ _ _ c.in_ok-push-4.ensures.items
    (c.letters.ensures.core ∙ ap (λ t. cat_all (letter_cores t)) c.in_ok-push-3.ensures.items) c.in-Some.ensures c.in_ok-text.ensures.words)
