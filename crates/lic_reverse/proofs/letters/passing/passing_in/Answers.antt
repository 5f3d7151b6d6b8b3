-- Where the place is one of the span's, what leads to it is a letter before it.
use Rattle.lic_ere.specs.Trees.{tree_of}
use Rattle.lic_reverse.specs.Passing.{passes_of}
use Rattle.lic_reverse.proofs.EreLemmas.{option-changed}
use Rattle.lic_reverse.proofs.PassingLemmas.{wide-no_passing, wide-passing}
use Rattle.lic_reverse.proofs.letters.passing.passing_in.Goals as goal

pub returns : goal.returns
returns c =
    let passes = passes_of (tree_of c.args.ere.now) in
    option-changed _ _ _ _ c.passing_before.result
    (λ none keep. wide-no_passing keep c.args.view.now passes c.args.span c.args.end none)
    (λ place led keep. wide-passing keep c.args.view.now passes c.args.span c.args.end place c.tokens_have_texts.ensures c.requires.placed
    (c.has_place.ensures.0 c.if-not-has_place.false) led)
    c.passing_before.ensures
