use Rattle.std.proofs.Common.{◌≡◌, ◌∙◌, sym, arith, vec_len}
use Rattle.std.proofs.lemmas.Bool.{eqb-true}
use Rattle.std.proofs.lemmas.List.{nil_from_length}
use Rattle.std.specs.Str.{chars}
use Rattle.lic_words.specs.Expressions.{Language, letters}
use Rattle.lic_reverse.specs.Reached.{reached_of}
use Rattle.lic_reverse.specs.Tidily.{UpTo, a_blank, a_letter, nothing, spans_of}
use Rattle.lic_reverse.proofs.CopyPowers.{reached-added, reached-all, reached-done, reached-kept, reached-start, ways-placed}
use Rattle.lic_reverse.proofs.EreLemmas.{ok-changed}
use Rattle.lic_reverse.proofs.text_copies.over_copies.Goals as goal

pub loop-init : goal.loop-init
loop-init c = record {
  reached = reached-start c.args.keep c.args.view.now (Language (letters (chars c.args.text.now))) c.args.spans.items (reached_of c.new-reached.result nothing) c.in_ok-front.front.items
      (c.new-reached.ensures nothing ∙ c.ways_of.ensures.nothing) (c.in_ok-front.ensures.items ∙ c.deref.ensures.value) c.requires.placed;
  placed = ways-placed c.args.view.now c.args.spans.items (reached_of c.new-reached.result)
      (c.new-reached.ensures nothing ∙ c.ways_of.ensures.nothing) (c.new-reached.ensures a_letter ∙ c.ways_of.ensures.letter)
      (c.new-reached.ensures a_blank ∙ c.ways_of.ensures.blank) c.requires.placed;
}

pub loop-preserved : goal.loop-preserved
loop-preserved c = record {
  reached = rw c.replace-front.ensures.value (reached-added c.args.keep c.args.view.now (Language (letters (chars c.args.text.now))) c.args.spans.items c.loop.front.items c.in_ok-next.next.items
      (reached_of c.loop.reached) (spans_of c.ways_of-in-loop.result) (reached_of c.add.new.self) (spans_of c.in_ok-added.added) c.loop.counter
      c.ways_of-in-loop.ensures.nothing c.loop.invariant.reached c.in_ok-next.ensures c.in_ok-added.ensures);
  placed = c.in_ok-added.ensures.back.placed;
}

pub returns-then-is_empty : goal.returns-then-is_empty
returns-then-is_empty c =
    let B = Language (letters (chars c.args.text.now)) in
    let long = c.loop.front.ok.0 in
    let none : vec_len c.loop.front ≡ 0 = eqb-true (vec_len c.loop.front) 0 (sym c.is_empty.ensures ∙ c.if-is_empty.true) in
    ok-changed _ _ c.places_of.result
    (λ found keeps. reached-kept c.args.keep c.args.view.now (UpTo B c.args.count) c.args.spans.items (reached_of c.loop.reached nothing) found.items c.tokens_have_texts.ensures
    (reached-all c.args.keep c.args.view.now B c.args.spans.items (reached_of c.loop.reached nothing) c.loop.front.items c.loop.counter c.args.count
    c.loop.auto.counter-end (nil_from_length c.loop.front.items (omega arith)) c.loop.invariant.reached)
    keeps)
    c.places_of.ensures

pub returns : goal.returns
returns c =
    let B = Language (letters (chars c.args.text.now)) in
    ok-changed _ _ c.places_of-2.result
    (λ found keeps. reached-kept c.args.keep c.args.view.now (UpTo B c.args.count) c.args.spans.items (reached_of c.loop.reached nothing) found.items c.tokens_have_texts.ensures
    (reached-done c.args.keep c.args.view.now B c.args.spans.items (reached_of c.loop.reached nothing) c.loop.front.items c.loop.counter c.args.count
    c.loop.auto.counter-end c.loop-test.false c.loop.invariant.reached)
    keeps)
    c.places_of-2.ensures
