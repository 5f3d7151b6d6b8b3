use Rattle.std.proofs.Common.{◌≡◌, [], suc, ◌+◌, ◌-◌, ◌<◌, length, map, drop, take, rules, ap, sym, refl, subst, ◌∙◌, arith}
use Rattle.lic_words.specs.Expressions.{Language}
use Rattle.lic_ere.specs.declared.ere.Ere.{the_lemmas}
use Rattle.lic_ere.specs.declared.ere.Ere.TheVariants.{Empty}
use Rattle.lic_ere.specs.Trees.{sequence, tree_of}
use Rattle.lic_ere.specs.Meaning.{choice_words, sequence_words, tree_words}
use Rattle.lic_view.specs.PlaceSets.{Reaches}
use Rattle.lic_reverse.specs.Reached.{reached_of}
use Rattle.lic_reverse.specs.Tidily.{IsTidyBack, UpTo, spans_of}
use Rattle.lic_reverse.proofs.EreLemmas.{choice-all, choice-item, choice-to, is_one-test, ok-changed, one-words, placed-copied, placed-joined, reached-done, reached-empty, reached-pruned, reached-start, sequence-all, sequence-item, times-all, times-more, times-same, tree_of-Alt, tree_of-Cat, tree_of-Repeat, words-changed}
use Rattle.std.proofs.lemmas.List.{append-nil}
use Rattle.lic_reverse.proofs.GroupParts.{tidy-part, tidy-part_none}
use Rattle.lic_reverse.proofs.EmptyWords.{alone-stays}
use Rattle.lic_reverse.proofs.TidyBack.{tidy-least}
use Rattle.lic_reverse.proofs.TidyRepeats.{repeat-back}
use Rattle.lic_reverse.proofs.patterns.+over.Goals as goal

pub over-returns-in-Cat : goal.over-returns-in-Cat
over-returns-in-Cat t c =
    words-changed c.args.keep c.args.view.now _ c.over_sequence.result _ _ (sym (ap tree_words (ap tree_of c.in-Cat.is ∙ tree_of-Cat c.in-Cat.subs)))
    (rw c.deref.ensures.value at c.over_sequence.ensures)

pub over-returns-in-Alt : goal.over-returns-in-Alt
over-returns-in-Alt t c =
    words-changed c.args.keep c.args.view.now _ c.over_choice.result _ _ (sym (ap tree_words (ap tree_of c.in-Alt.is ∙ tree_of-Alt c.in-Alt.subs)))
    (rw c.deref-in-Alt.ensures.value at c.over_choice.ensures)

pub over-returns-in-Repeat : goal.over-returns-in-Repeat
over-returns-in-Repeat t c =
    words-changed c.args.keep c.args.view.now _ c.over_repeat.result _ _ (sym (ap tree_words (ap tree_of c.in-Repeat.is ∙ tree_of-Repeat c.in-Repeat.body c.in-Repeat.min c.in-Repeat.max)))
    (rw c.deref-in-Repeat.ensures at c.over_repeat.ensures)

pub over-returns-in-Char : goal.over-returns-in-Char
over-returns-in-Char t c =
    words-changed c.args.keep c.args.view.now _ c.over_one.result _ _ (one-words (tree_of c.args.ere.now) (is_one-test c.args.ere.now c.in-Char.is)) c.over_one.ensures

pub over_choice-over-requires : goal.over_choice-over-requires
over_choice-over-requires t c = (
  search (rules, the_lemmas),
  λ s. let part = c.in_ok-part.ensures c.args.view.now s c.requires c.loop-next.invariant.groups in part.placed,
)

pub over_choice-kept_if_many-requires : goal.over_choice-kept_if_many-requires
over_choice-kept_if_many-requires t c =
    placed-joined c.args.view.now (spans_of c.loop-next.found) (spans_of c.in_ok-more.more) (spans_of c.append.new.self)
    c.in_ok-append.ensures c.loop-next.invariant.back.placed c.in_ok-more.ensures.placed

pub over_choice-loop-next-preserved-then-is_empty : goal.over_choice-loop-next-preserved-then-is_empty
over_choice-loop-next-preserved-then-is_empty t c =
    let tokens = c.args.view.now in
    let next = c.loop-next.next in
    let after = c.after_repeated-next.ensures.after in
    record {
      within = c.after_repeated-next.ensures.within;
      groups = c.loop-next.invariant.groups;
      back = choice-to c.args.keep tokens (λ s q l. Reaches tokens (spans_of c.args.ways.now s) q l) c.args.subs.now (next + 1) c.after_repeated-next.result Empty
          (spans_of c.loop-next.found) (omega (arith, after)) c.after_repeated-next.ensures.within
          (λ k from to. c.after_repeated-next.ensures.repeated k (omega (arith, from)) to)
          (choice-item c.args.keep tokens (λ s q l. Reaches tokens (spans_of c.args.ways.now s) q l) c.args.subs.now next c.index-subs-next.result
          (spans_of c.loop-next.found) (λ s. []) (spans_of c.loop-next.found)
          c.loop-next-test.true c.index-subs-next.is (λ s. sym (append-nil (spans_of c.loop-next.found s))) c.loop-next.invariant.back
          (tidy-part_none c.args.keep tokens (Language (tree_words (tree_of c.index-subs-next.result))) (spans_of c.args.ways.now) (spans_of c.in_ok-part.part)
          (λ s. c.in_ok-part.ensures tokens s c.requires c.loop-next.invariant.groups) (λ s. []) (c.is_empty.ensures c.if-is_empty.true) (λ s. refl)));
    }

pub over_choice-loop-next-preserved : goal.over_choice-loop-next-preserved
over_choice-loop-next-preserved t c =
    let tokens = c.args.view.now in
    let next = c.loop-next.next in
    let after = c.after_repeated-next.ensures.after in
    record {
      within = c.after_repeated-next.ensures.within;
      groups = c.loop-next.invariant.groups;
      back = choice-to c.args.keep tokens (λ s q l. Reaches tokens (spans_of c.args.ways.now s) q l) c.args.subs.now (next + 1) c.after_repeated-next.result Empty
          (spans_of c.in_ok-found.found) (omega (arith, after)) c.after_repeated-next.ensures.within
          (λ k from to. c.after_repeated-next.ensures.repeated k (omega (arith, from)) to)
          (tidy-least c.args.keep tokens (Language (choice_words (sequence (map tree_of (take (next + 1) c.args.subs.now)))))
          (λ s q l. Reaches tokens (spans_of c.args.ways.now s) q l) (spans_of c.append.new.self) (spans_of c.in_ok-found.found)
          (choice-item c.args.keep tokens (λ s q l. Reaches tokens (spans_of c.args.ways.now s) q l) c.args.subs.now next c.index-subs-next.result
          (spans_of c.loop-next.found) (spans_of c.in_ok-more.more) (spans_of c.append.new.self)
          c.loop-next-test.true c.index-subs-next.is c.in_ok-append.ensures c.loop-next.invariant.back
          (tidy-part c.args.keep tokens (Language (tree_words (tree_of c.index-subs-next.result))) (spans_of c.args.ways.now) (spans_of c.in_ok-part.part)
          (λ s. c.in_ok-part.ensures tokens s c.requires c.loop-next.invariant.groups) (spans_of c.in_ok-more.more) c.in_ok-more.ensures))
          c.in_ok-found.ensures);
    }

pub over_choice-returns : goal.over_choice-returns
over_choice-returns t c =
    let tokens = c.args.view.now in
    ok-changed _ _ c.kept.result
    (λ found least. tidy-least c.args.keep tokens (Language (choice_words (sequence (map tree_of c.args.subs.now)))) (λ s q l. Reaches tokens (spans_of c.args.ways.now s) q l)
    (spans_of c.loop-next.found) (spans_of found)
    (choice-all c.args.keep tokens (λ s q l. Reaches tokens (spans_of c.args.ways.now s) q l) c.args.subs.now c.loop-next.next (spans_of c.loop-next.found) c.loop-next-test.false c.loop-next.invariant.back)
    least)
    c.kept.ensures

pub over_repeat-returns : goal.over_repeat-returns
over_repeat-returns t c =
    ok-changed _ _ c.over_up_to.result
    (λ found back. repeat-back c.args.keep c.args.view.now c.tokens_have_texts.ensures (Language (tree_words (tree_of c.args.body.now)))
    (λ s q last. Reaches c.args.view.now (spans_of c.args.ways s) q last) c.args.min c.args.max c.in-Some.more
    (spans_of c.in_ok-needed.needed) (spans_of found) (let same = ap length c.bytes-length.ensures in omega (arith, same, c.bytes-length.type_inv.0)) c.in-Some.ensures c.in_ok-needed.ensures back)
    c.over_up_to.ensures

pub over_sequence-loop-number-preserved : goal.over_sequence-loop-number-preserved
over_sequence-loop-number-preserved t c =
    let tokens = c.args.view.now in
    let below : c.loop-number.number - 1 < length c.args.subs.now = omega (arith, c.loop-number-test.true, c.loop-number.invariant.within) in
    let next : c.loop-number.number ≡ (c.loop-number.number - 1) + 1 = omega (arith, c.loop-number-test.true) in
    record {
      within = omega (arith, c.loop-number.invariant.within);
      back = tidy-least c.args.keep tokens (Language (sequence_words (sequence (map tree_of (drop (c.loop-number.number - 1) c.args.subs.now)))))
          (λ s q l. Reaches tokens (spans_of c.args.ways s) q l) (spans_of c.in_ok-led.led) (spans_of c.in_ok-ways.ways)
          (sequence-item c.args.keep tokens (λ s q l. Reaches tokens (spans_of c.args.ways s) q l) c.args.subs.now (c.loop-number.number - 1) c.loop-number.number c.index-subs-number.result
          (spans_of c.loop-number.ways) (spans_of c.in_ok-led.led) next below c.index-subs-number.is c.loop-number.invariant.back c.in_ok-led.ensures)
          c.in_ok-ways.ensures;
    }

-- a pattern that has the empty word alone leads from each place to itself
pub over_sequence-loop-number-preserved-then-has_empty_word_alone : goal.over_sequence-loop-number-preserved-then-has_empty_word_alone
over_sequence-loop-number-preserved-then-has_empty_word_alone t c =
    let tokens = c.args.view.now in
    let below : c.loop-number.number - 1 < length c.args.subs.now = omega (arith, c.loop-number-test.true, c.loop-number.invariant.within) in
    let next : c.loop-number.number ≡ (c.loop-number.number - 1) + 1 = omega (arith, c.loop-number-test.true) in
    record {
      within = omega (arith, c.loop-number.invariant.within);
      back = sequence-item c.args.keep tokens (λ s q l. Reaches tokens (spans_of c.args.ways s) q l) c.args.subs.now (c.loop-number.number - 1) c.loop-number.number c.index-subs-number.result
          (spans_of c.loop-number.ways) (spans_of c.loop-number.ways) next below c.index-subs-number.is c.loop-number.invariant.back
          (alone-stays c.args.keep tokens (tree_words (tree_of c.index-subs-number.result)) (c.has_empty_word_alone.ensures c.if-has_empty_word_alone.true)
          (spans_of c.loop-number.ways) c.loop-number.invariant.back.placed);
    }

pub over_sequence-returns : goal.over_sequence-returns
over_sequence-returns t c =
    sequence-all c.args.keep c.args.view.now _ c.args.subs.now c.loop-number.number (spans_of c.loop-number.ways) (omega (arith, c.loop-number-test.false)) c.loop-number.invariant.back

pub over_times-over-requires : goal.over_times-over-requires
over_times-over-requires t c = (
  search (rules, the_lemmas),
  placed-copied c.args.view.now (spans_of c.loop.ways) (spans_of c.in_ok-copy.field-0) c.in_ok-copy.ensures c.loop.invariant.placed,
)

pub over_times-returns-then-is_same : goal.over_times-returns-then-is_same
over_times-returns-then-is_same t c =
    let tokens = c.args.view.now in
    times-same c.args.keep tokens (Language (tree_words (tree_of c.args.body.now))) (λ s q l. Reaches tokens (spans_of c.args.ways s) q l)
    (spans_of c.loop.ways) (spans_of c.in_ok-copy.field-0) (spans_of c.in_ok-led.led) (spans_of c.in_ok-next.next)
    c.in_ok-copy.ensures c.in_ok-led.ensures c.in_ok-next.ensures c.loop.counter c.loop.invariant
    (c.is_same.ensures c.if-is_same.true) c.args.count c.loop.auto.counter-end

pub over_times-loop-preserved : goal.over_times-loop-preserved
over_times-loop-preserved t c =
    let tokens = c.args.view.now in
    times-more c.args.keep tokens (Language (tree_words (tree_of c.args.body.now))) (λ s q l. Reaches tokens (spans_of c.args.ways s) q l)
    (spans_of c.loop.ways) (spans_of c.in_ok-copy.field-0) (spans_of c.in_ok-led.led) (spans_of c.in_ok-next.next)
    c.in_ok-copy.ensures c.in_ok-led.ensures c.in_ok-next.ensures c.loop.counter c.loop.invariant
    (c.loop.counter + 1) refl

pub over_times-returns : goal.over_times-returns
over_times-returns t c =
    let tokens = c.args.view.now in
    times-all c.args.keep tokens (Language (tree_words (tree_of c.args.body.now))) (λ s q l. Reaches tokens (spans_of c.args.ways s) q l)
    (spans_of c.loop.ways) c.loop.counter c.args.count c.loop.auto.counter-end c.loop-test.false c.loop.invariant

pub over_up_to-loop-init : goal.over_up_to-loop-init
over_up_to-loop-init t c =
    reached-start c.args.keep c.args.view.now (Language (tree_words (tree_of c.args.body.now))) (spans_of c.args.ways) (reached_of c.new-reached.result) (spans_of c.in_ok-front.front)
    c.new-reached.ensures c.in_ok-front.ensures c.requires

pub over_up_to-over-requires : goal.over_up_to-over-requires
over_up_to-over-requires t c = (
  search (rules, the_lemmas),
  placed-copied c.args.view.now (spans_of c.loop.front) (spans_of c.in_ok-copy.field-0) c.in_ok-copy.ensures c.loop.invariant.placed,
)

pub over_up_to-loop-preserved : goal.over_up_to-loop-preserved
over_up_to-loop-preserved t c =
    let one_more : c.loop.counter + 1 ≡ suc c.loop.counter = omega arith in
    let next = c.in_ok-front-2.ensures in
    reached-pruned c.args.keep c.args.view.now (Language (tree_words (tree_of c.args.body.now))) (spans_of c.args.ways) (reached_of c.loop.reached) (spans_of c.loop.front)
    (spans_of c.in_ok-copy.field-0) (spans_of c.in_ok-led.led) next.kept next.fresh
    (reached_of c.go_on.new.self) (spans_of c.in_ok-front-2.front) c.loop.counter (c.loop.counter + 1) one_more
    c.loop.invariant c.in_ok-copy.ensures c.in_ok-led.ensures next.are_kept next.are_fresh next.added

pub over_up_to-returns : goal.over_up_to-returns
over_up_to-returns t c =
    let tokens = c.args.view.now in
    reached-done c.args.keep tokens (Language (tree_words (tree_of c.args.body.now))) (spans_of c.args.ways) (reached_of c.loop.reached) (spans_of c.loop.front)
    (spans_of c.in_ok-into_ways-2.field-0) c.loop.counter c.args.count c.loop.invariant c.loop.auto.counter-end c.loop-test.false c.in_ok-into_ways-2.ensures

pub over_up_to-returns-then-is_empty : goal.over_up_to-returns-then-is_empty
over_up_to-returns-then-is_empty t c =
    let tokens = c.args.view.now in
    reached-empty c.args.keep tokens (Language (tree_words (tree_of c.args.body.now))) (spans_of c.args.ways) (reached_of c.loop.reached) (spans_of c.loop.front)
    (spans_of c.in_ok-into_ways.field-0) c.loop.counter c.args.count c.loop.invariant c.loop.auto.counter-end (c.is_empty.ensures c.if-is_empty.true) c.in_ok-into_ways.ensures

pub over_repeat-returns-then-are_few : goal.over_repeat-returns-then-are_few
over_repeat-returns-then-are_few t c =
    let tokens = c.args.view.now in
    let tree = tree_of c.args.body.now in
    ok-changed _ _ c.over_many.result
    (λ found back. repeat-back c.args.keep tokens c.tokens_have_texts.ensures (Language (tree_words tree))
    (λ s q last. Reaches tokens (spans_of c.args.ways s) q last) c.args.min c.args.max c.in-Some.more
    (spans_of c.in_ok-needed.needed) (spans_of found) (let same = ap length c.bytes-length.ensures in omega (arith, same, c.bytes-length.type_inv.0)) c.in-Some.ensures c.in_ok-needed.ensures
    (subst (λ e. IsTidyBack c.args.keep tokens (UpTo (Language e) c.in-Some.more) (spans_of c.in_ok-needed.needed) (spans_of found))
    (one-words tree (sym c.is_one.ensures ∙ c.if-is_one.true)) back))
    c.over_many.ensures
