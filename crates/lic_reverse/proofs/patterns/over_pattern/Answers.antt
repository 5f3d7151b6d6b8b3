use Rattle.std.proofs.Common.{refl}
use Rattle.lic_words.specs.Words.{IsTidy}
use Rattle.lic_words.specs.Expressions.{Language, tidy}
use Rattle.lic_ere.specs.Trees.{tree_of}
use Rattle.lic_ere.specs.Meaning.{tree_words}
use Rattle.lic_view.specs.PlaceSets.{Reaches}
use Rattle.lic_view.specs.Backward.{IsBack}
use Rattle.lic_reverse.specs.declared.ways.Ways.{Ways}
use Rattle.lic_reverse.specs.Tidily.{spans_of}
use Rattle.lic_view.proofs.Back.{back-keeps}
use Rattle.lic_reverse.proofs.EmptyWords.{alone-back}
use Rattle.lic_reverse.proofs.TidyPassing.{tidy-answer}
use Rattle.lic_reverse.proofs.patterns.over_pattern.Goals as goal
use Rattle.lic_reverse.proofs.patterns.over_pattern.Goals.{After-replace-places}

-- the places that are not after a blank of the word
answer : (c : After-replace-places) → IsBack c.args.keep c.args.view.now (λ w. Language (tree_words (tree_of c.args.ere.now)) w × IsTidy w) c.args.spans.items c.append.new.self.items
answer c =
    let begin : Ways = record { nothing = c.args.spans; letter = c.new.result; blank = c.new-2.result } in
    tidy-answer c.args.keep c.args.view.now (Language (tree_words (tree_of c.args.ere.now))) c.args.spans.items c.append.new.self.items (spans_of begin) (spans_of c.in_ok-found.found)
    refl c.new.ensures.items c.new-2.ensures.items c.in_ok-append.ensures.items c.in_ok-found.ensures

pub returns-then-has_empty_word_alone : goal.returns-then-has_empty_word_alone
returns-then-has_empty_word_alone c =
    alone-back c.args.keep c.args.view.now (tree_words (tree_of c.args.ere.now)) (c.has_empty_word_alone.ensures c.if-has_empty_word_alone.true)
    c.args.spans.items c.requires.placed

pub kept-requires : goal.kept-requires
kept-requires c = let back = answer c in rw c.replace-places.ensures.value back.placed

pub returns : goal.returns
returns c =
    let begin : Ways = record { nothing = c.args.spans; letter = c.new.result; blank = c.new-2.result } in
    back-keeps c.args.keep c.args.view.now (Language (tidy (tree_words (tree_of c.args.ere.now)))) (Reaches c.args.view.now c.args.spans.items)
    c.append.new.self.items c.in_ok-kept.field-0.items c.tokens_have_texts.ensures
    (tidy-answer c.args.keep c.args.view.now (Language (tree_words (tree_of c.args.ere.now))) c.args.spans.items c.append.new.self.items (spans_of begin) (spans_of c.in_ok-found.found)
    refl c.new.ensures.items c.new-2.ensures.items c.in_ok-append.ensures.items c.in_ok-found.ensures)
    (rw c.replace-places.ensures.value at c.in_ok-kept.ensures)
