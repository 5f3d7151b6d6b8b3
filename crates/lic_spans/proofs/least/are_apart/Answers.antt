-- What holds of neighbours holds of all.
use Rattle.std.proofs.Common.{◌≡◌, rules}
use Rattle.std.proofs.lemmas.Fn.{always_returns_same}
use Rattle.std.specs.List.{IsAllAdjacentAnswer}
use Rattle.lic_spans.specs.Spans.{is_before}
use Rattle.lic_spans.proofs.Sorting.{AreApart-answer}
use Rattle.lic_spans.proofs.least.are_apart.Goals as goal

pub returns : goal.returns
returns c =
    let answer : IsAllAdjacentAnswer (λ x y b. b ≡ is_before x y) c.args.spans.now c.is_sorted_by.result =
    c.is_sorted_by.ensures.cases is_before (always_returns_same _ _ _ (λ a r f' k. search rules)) in
    AreApart-answer c.args.spans.now c.is_sorted_by.result c.requires answer
