-- One letter more before the place, and then all of them.
use Rattle.std.proofs.Common.{◌≡◌, ◌+◌, ◌<◌, length, set, ap, arith, subst, sym, ◌∙◌}
use Rattle.lic_reverse.specs.LetterGroups.{mixed, number_of}
use Rattle.lic_reverse.proofs.LetterGroupLemmas.{AddsSequences, entry_of, pending-blank, pending-long, pending-none, sequences-all, sequences-more, sequences-none}
use Rattle.lic_reverse.proofs.ways.groups.add_place.Goals as goal

pub loop-init : goal.loop-init
loop-init c = sequences-none c.args.view.now c.args.one c.args.place c.args.lists.now.items

pub loop-preserved : goal.loop-preserved
loop-preserved c =
    let tokens = c.args.view.now in
    let lists = c.loop.lists.items in
    let size : c.len.result ≡ length lists = omega (arith, c.len.ensures, c.loop.lists.ok) in
    let number : c.number_of-number.result ≡ number_of (mixed c.loop.hash c.in-Some.letter) (length lists) =
    c.number_of-number.ensures.value ∙ (ap (λ h. number_of h c.len.result) c.mixed-hash.ensures ∙ ap (number_of (mixed c.loop.hash c.in-Some.letter)) size) in
    let within : c.number_of-number.result < length lists = omega (arith, c.number_of-number.ensures.below, size) in
    subst (λ h. AddsSequences tokens c.args.one c.args.place c.in-Some.start h (c.loop.counter + 1) c.args.lists.now.items (set lists c.number_of-number.result c.push.new.self))
    (sym c.mixed-hash.ensures)
    (sequences-more tokens c.args.one c.args.place c.loop.first c.loop.hash c.loop.counter c.in-Some.start c.in-Some.letter c.number_of-number.result
    c.args.lists.now.items lists c.index_mut.result.now c.push.new.self (entry_of c.mixed-hash.result c.args.one)
    c.tokens_have_texts.ensures c.loop.invariant c.in-Some.ensures within c.index_mut.ensures.value c.in_ok-push.ensures.items
    (ap (λ h. entry_of h c.args.one) c.mixed-hash.ensures) number)

pub returns-in_default : goal.returns-in_default
returns-in_default c =
    sequences-all c.args.view.now c.args.one c.args.place c.loop.first c.loop.hash c.loop.counter c.args.lists.now.items c.loop.lists.items c.loop.invariant c.requires.reaches
    (pending-none c.args.view.now c.loop.first c.loop.hash c.loop.counter c.in_default.ensures)

pub returns-then-letter-eq32 : goal.returns-then-letter-eq32
returns-then-letter-eq32 c =
    sequences-all c.args.view.now c.args.one c.args.place c.loop.first c.loop.hash c.loop.counter c.args.lists.now.items c.loop.lists.items c.loop.invariant c.requires.reaches
    (pending-blank c.args.view.now c.loop.first c.loop.hash c.loop.counter c.in-Some.start c.in-Some.letter c.tokens_have_texts.ensures c.in-Some.ensures c.if-letter-eq32.true)

pub returns : goal.returns
returns c =
    sequences-all c.args.view.now c.args.one c.args.place c.loop.first c.loop.hash c.loop.counter c.args.lists.now.items c.loop.lists.items c.loop.invariant c.requires.reaches
    (pending-long c.args.view.now c.loop.first c.loop.hash c.loop.counter c.loop-test.false)
