-- One pattern more.
use Rattle.std.proofs.Common.{◌≡◌, ◌+◌, ◌<◌, arith, map, subst, sym, take}
use Rattle.std.proofs.lemmas.List.{take_all}
use Rattle.lic_ere.specs.Trees.{sequence, tree_of}
use Rattle.lic_ere.specs.Meaning.{choice_words, sequence_words, tree_words}
use Rattle.lic_search.specs.Ends.{HasAtMost}
use Rattle.lic_search.proofs.ReachBounds.{letters-alt, letters-cat, letters-choice, letters-more, letters-repetition, letters-sequence, most_number}
use Rattle.lic_search.proofs.reach.+most_letters.Goals as goal

pub most_letters-returns-in-Repeat : goal.most_letters-returns-in-Repeat
most_letters-returns-in-Repeat t c =
    letters-repetition c.args.ere.now c.in-Repeat.body c.in-Repeat.min c.in-Repeat.max c.most_letters.result c.most_repeated.result c.in-Repeat.is c.most_repeated.ensures
    (λ below. subst (λ e. HasAtMost (tree_words (tree_of e)) c.most_letters.result) c.deref-in-Repeat.ensures (c.most_letters.ensures below))

pub most_letters-returns-in-Cat : goal.most_letters-returns-in-Cat
most_letters-returns-in-Cat t c = λ below.
    letters-cat c.args.ere.now c.in-Cat.subs c.most_sequence_letters.result c.in-Cat.is
    (subst (λ l. HasAtMost (sequence_words (sequence (map tree_of l))) c.most_sequence_letters.result) c.deref.ensures.value (c.most_sequence_letters.ensures below))

pub most_letters-returns-in-Alt : goal.most_letters-returns-in-Alt
most_letters-returns-in-Alt t c = λ below.
    letters-alt c.args.ere.now c.in-Alt.subs c.most_choice_letters.result c.in-Alt.is
    (subst (λ l. HasAtMost (choice_words (sequence (map tree_of l))) c.most_choice_letters.result) c.deref-in-Alt.ensures.value (c.most_choice_letters.ensures below))

pub most_sequence_letters-loop-sub-preserved : goal.most_sequence_letters-loop-sub-preserved
most_sequence_letters-loop-sub-preserved t c = λ below.
    let sum : c.saturating_add-most.result ≡ c.loop-sub.most + c.most_letters.result = omega (arith, c.saturating_add-most.ensures, below) in
    let before : c.loop-sub.most < most_number = omega arith in
    let here : c.most_letters.result < most_number = omega arith in
    subst (λ n. HasAtMost (sequence_words (sequence (map tree_of (take (c.loop-sub.sub-index + 1) c.args.subs.now)))) n) (sym sum)
    (letters-sequence c.args.subs.now c.loop-sub.sub-index c.sub-item.result c.loop-sub.most c.most_letters.result c.loop-sub-test.true c.sub-item.is
    (c.loop-sub.invariant before) (c.most_letters.ensures here))

pub most_choice_letters-loop-sub-preserved : goal.most_choice_letters-loop-sub-preserved
most_choice_letters-loop-sub-preserved t c = λ below.
    let before : c.loop-sub.most < most_number = omega (arith, c.max-most.ensures, below) in
    let here : c.most_letters.result < most_number = omega (arith, c.max-most.ensures, below) in
    letters-choice c.args.subs.now c.loop-sub.sub-index c.sub-item.result c.max-most.result c.loop-sub-test.true c.sub-item.is
    (letters-more (choice_words (sequence (map tree_of (take c.loop-sub.sub-index c.args.subs.now)))) c.loop-sub.most c.max-most.result (omega (arith, c.max-most.ensures)) (c.loop-sub.invariant before))
    (letters-more _ c.most_letters.result c.max-most.result (omega (arith, c.max-most.ensures)) (c.most_letters.ensures here))

pub most_sequence_letters-returns : goal.most_sequence_letters-returns
most_sequence_letters-returns t c = λ below.
    subst (λ l. HasAtMost (sequence_words (sequence (map tree_of l))) c.loop-sub.most) (take_all c.loop-sub.sub-index c.args.subs.now c.loop-sub-test.false) (c.loop-sub.invariant below)

pub most_choice_letters-returns : goal.most_choice_letters-returns
most_choice_letters-returns t c = λ below.
    subst (λ l. HasAtMost (choice_words (sequence (map tree_of l))) c.loop-sub.most) (take_all c.loop-sub.sub-index c.args.subs.now c.loop-sub-test.false) (c.loop-sub.invariant below)
