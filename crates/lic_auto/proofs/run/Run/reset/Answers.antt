use Rattle.std.proofs.Common.{[], length, sym, ap, ◌∙◌, subst, arith}
use Rattle.std.proofs.lemmas.List.{with_items_is}
use Rattle.lic_set.specs.Rising.{IsRising}
use Rattle.lic_auto.specs.TemplateRuns.{AreFollowing, AreOver, BeginsAmong, run_numbers}
use Rattle.lic_auto.proofs.Following.{AreFollowing-begun, AreOver-changed, begun-numbers}
use Rattle.lic_auto.proofs.run.Run.reset.Goals as goal

pub returns-clause-numbers : goal.returns-clause-numbers
returns-clause-numbers c =
    let self = c.args.self.now in
    ap run_numbers (with_items_is self.runs c.begin_all.new.runs (omega (arith, c.begin_all.auto, c.deref_mut.ensures.len)))
    ∙ begun-numbers (run_numbers c.deref_mut.result.now) c.deref_mut.result.now c.begin_all.new.runs c.begin_all.ensures
    ∙ ap run_numbers c.deref_mut.ensures.value

pub invariant_of-self : goal.invariant_of-self
invariant_of-self c =
    let self = c.args.self.now in
    let set = self.set.now in
    let old = c.deref_mut.result.now in
    let items = with_items_is self.runs c.begin_all.new.runs (omega (arith, c.begin_all.auto, c.deref_mut.ensures.len)) in
    record {
      rising = subst (λ xs. IsRising xs (length set)) (sym (ap run_numbers items
          ∙ begun-numbers (run_numbers old) old c.begin_all.new.runs c.begin_all.ensures ∙ ap run_numbers c.deref_mut.ensures.value)) self.rising;
      over = subst (AreOver set) (sym items)
          (AreOver-changed set old c.begin_all.new.runs (BeginsAmong (run_numbers old)) (λ a b change. change.tree) (λ a b change. change.number)
          c.begin_all.ensures (subst (AreOver set) (sym c.deref_mut.ensures.value) self.over));
    }

pub returns-clause-taken : goal.returns-clause-taken
returns-clause-taken c =
    let self = c.args.self.now in
    let set = self.set.now in
    let old = c.deref_mut.result.now in
    let new = c.begin_all.new.runs in
    let items = with_items_is self.runs new (omega (arith, c.begin_all.auto, c.deref_mut.ensures.len)) in
    let over : AreOver set old = subst (AreOver set) (sym c.deref_mut.ensures.value) self.over in
    record {
      some = λ k h. h;
      runs = subst (λ runs. AreFollowing set runs (run_numbers runs) []) (sym items)
          (subst (λ numbers. AreFollowing set new numbers []) (sym (begun-numbers (run_numbers old) old new c.begin_all.ensures))
          (AreFollowing-begun set old new (run_numbers old) c.begin_all.ensures over));
    }
