-- One pattern more, and patterns of patterns.
use Rattle.std.proofs.Common.{All, rules, subst}
use Rattle.std.proofs.lemmas.List.{take_all}
use Rattle.lic_reverse.proofs.EmptyWords.{IsAlone, alone-Alt, alone-Cat, alone-Repeat}
use Rattle.lic_reverse.proofs.empty.+has_empty_word_alone.Goals as goal

pub has_empty_word_alone-returns-in-Cat : goal.has_empty_word_alone-returns-in-Cat
has_empty_word_alone-returns-in-Cat t c = λ yes.
    alone-Cat c.args.ere.now c.in-Cat.subs c.in-Cat.is (subst (All IsAlone) c.deref.ensures.value (c.have_empty_word_alone.ensures yes))

pub has_empty_word_alone-returns-then-not-is_empty : goal.has_empty_word_alone-returns-then-not-is_empty
has_empty_word_alone-returns-then-not-is_empty t c = λ yes.
    alone-Alt c.args.ere.now c.in-Alt.subs c.in-Alt.is (λ none. search (rules, c.is_empty.ensures, c.if-not-is_empty.true, none))
    (subst (All IsAlone) c.deref-then-not-is_empty.ensures.value (c.have_empty_word_alone-then-not-is_empty.ensures yes))

pub has_empty_word_alone-returns-then-is_possible : goal.has_empty_word_alone-returns-then-is_possible
has_empty_word_alone-returns-then-is_possible t c = λ yes.
    alone-Repeat c.args.ere.now c.in-Repeat.body c.in-Repeat.min c.in-Repeat.max c.in-Repeat.is
    (c.is_possible.ensures c.if-is_possible.true) (subst IsAlone c.deref-then-is_possible.ensures (c.has_empty_word_alone.ensures yes))

pub have_empty_word_alone-returns : goal.have_empty_word_alone-returns
have_empty_word_alone-returns t c = λ yes.
    subst (All IsAlone) (take_all c.loop-sub.sub-index c.args.subs.now c.loop-sub-test.false) c.loop-sub.invariant
