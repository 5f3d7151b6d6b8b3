use Rattle.std.proofs.Common.{[], length, sym, ap, ◌∙◌, subst, arith}
use Rattle.std.proofs.lemmas.List.{with_items_is}
use Rattle.lic_set.specs.Rising.{IsRising}
use Rattle.lic_set.proofs.RisingLemmas.{IsRising-nil}
use Rattle.lic_auto.specs.TemplateBacks.{AreReversed, BeginsAnew, HaveTakenBackward, back_numbers}
use Rattle.lic_auto.proofs.Sought.{AreReversed-changed, HaveTakenBackward-anew, anew-numbers, none_live}
use Rattle.lic_auto.proofs.back.Back.reset.Goals as goal

pub returns-clause-numbers : goal.returns-clause-numbers
returns-clause-numbers c =
    let self = c.args.self.now in
    ap back_numbers (with_items_is self.backs c.begin_anew.new.backs (omega (arith, c.begin_anew.auto, c.deref_mut.ensures.len)))
    ∙ anew-numbers c.deref_mut.result.now c.begin_anew.new.backs c.begin_anew.ensures
    ∙ ap back_numbers c.deref_mut.ensures.value

pub invariant_of-self : goal.invariant_of-self
invariant_of-self c =
    let self = c.args.self.now in
    let set = self.set.now in
    let old = c.deref_mut.result.now in
    let new = c.begin_anew.new.backs in
    let items = with_items_is self.backs new (omega (arith, c.begin_anew.auto, c.deref_mut.ensures.len)) in
    record {
      rising = subst (λ xs. IsRising xs (length set))
          (sym (ap back_numbers items ∙ anew-numbers old new c.begin_anew.ensures ∙ ap back_numbers c.deref_mut.ensures.value)) self.rising;
      mirrors = subst (AreReversed set) (sym items)
          (AreReversed-changed set old new BeginsAnew (λ a b change. change.tree) (λ a b change. change.number)
          c.begin_anew.ensures (subst (AreReversed set) (sym c.deref_mut.ensures.value) self.mirrors));
      live_size = self.live_size;
      live_within = omega arith;
      live_rising = IsRising-nil (length set);
    }

pub returns-clause-taken : goal.returns-clause-taken
returns-clause-taken c =
    let self = c.args.self.now in
    let set = self.set.now in
    let old = c.deref_mut.result.now in
    let new = c.begin_anew.new.backs in
    let items = with_items_is self.backs new (omega (arith, c.begin_anew.auto, c.deref_mut.ensures.len)) in
    let mirrors : AreReversed set old = subst (AreReversed set) (sym c.deref_mut.ensures.value) self.mirrors in
    record {
      backs = subst (λ xs. HaveTakenBackward set xs []) (sym items) (HaveTakenBackward-anew set old new c.begin_anew.ensures mirrors);
      live = λ k. none_live _ set k;
    }
