use Rattle.std.proofs.Common.{◌≡◌, true, sym, ◌∙◌}
use Rattle.lic_words.specs.Words.{blank}
use Rattle.lic_ere.specs.Trees.{tree_of}
use Rattle.lic_reverse.specs.Passing.{passes_of}
use Rattle.lic_view.specs.PlaceSets.{Reaches}
use Rattle.lic_view.proofs.Back.{back-same}
use Rattle.lic_view.proofs.BlankLemmas.{IsBlank}
use Rattle.lic_reverse.proofs.TidyPassing.{IsPassingBlank}
use Rattle.lic_reverse.proofs.EreLemmas.{ok-changed}
use Rattle.lic_reverse.proofs.letters.passing.over_passing_blank.Goals as goal

pub returns-then-passes : goal.returns-then-passes
returns-then-passes c =
    let tokens = c.args.view.now in
    let passes = passes_of (tree_of c.args.ere.now) in
    let spans = c.args.spans.now in
    let is : passes blank ≡ true = sym c.passes.ensures ∙ c.if-passes.true in
    ok-changed _ _ c.over_blanks.result
    (λ found back. back-same c.args.keep tokens IsBlank (IsPassingBlank passes) (Reaches tokens spans) (Reaches tokens spans) found.items
    (λ w. (λ same. (is, same), λ both. both.1)) (λ q last. (λ r. r, λ r. r)) back)
    c.over_blanks.ensures
