use Rattle.std.proofs.Common.{[], length, sym, ap, ◌∙◌, subst, arith}
use Rattle.std.specs.List.{Contains}
use Rattle.std.proofs.lemmas.List.{with_items_is}
use Rattle.lic_set.specs.Rising.{IsRising}
use Rattle.lic_auto.specs.TemplateRuns.{AreFollowing, AreOver, BeginsAmong, run_numbers}
use Rattle.lic_auto.proofs.Following.{AreFollowing-begun, AreOver-changed, begun-numbers}
use Rattle.lic_auto.proofs.run.Run.begin.Goals as goal

pub returns-clause-numbers : goal.returns-clause-numbers
returns-clause-numbers c =
    let self = c.args.self.now in
    ap run_numbers (with_items_is self.runs c.begin_among.new.runs (omega (arith, c.begin_among.auto, c.deref_mut.ensures.len)))
    ∙ begun-numbers c.args.numbers.now c.deref_mut.result.now c.begin_among.new.runs c.begin_among.ensures
    ∙ ap run_numbers c.deref_mut.ensures.value

pub invariant_of-self : goal.invariant_of-self
invariant_of-self c =
    let self = c.args.self.now in
    let set = self.set.now in
    let old = c.deref_mut.result.now in
    let new = c.begin_among.new.runs in
    let items = with_items_is self.runs new (omega (arith, c.begin_among.auto, c.deref_mut.ensures.len)) in
    record {
      rising = subst (λ xs. IsRising xs (length set))
          (sym (ap run_numbers items ∙ begun-numbers c.args.numbers.now old new c.begin_among.ensures ∙ ap run_numbers c.deref_mut.ensures.value)) self.rising;
      over = subst (AreOver set) (sym items)
          (AreOver-changed set old new (BeginsAmong c.args.numbers.now) (λ a b change. change.tree) (λ a b change. change.number)
          c.begin_among.ensures (subst (AreOver set) (sym c.deref_mut.ensures.value) self.over));
    }

pub returns-clause-taken : goal.returns-clause-taken
returns-clause-taken c =
    let self = c.args.self.now in
    let set = self.set.now in
    let numbers = c.args.numbers.now in
    let old = c.deref_mut.result.now in
    let new = c.begin_among.new.runs in
    let items = with_items_is self.runs new (omega (arith, c.begin_among.auto, c.deref_mut.ensures.len)) in
    let over : AreOver set old = subst (AreOver set) (sym c.deref_mut.ensures.value) self.over in
    record {
      some = λ k h. subst (λ xs. Contains xs k)
          (sym (ap run_numbers items ∙ begun-numbers numbers old new c.begin_among.ensures ∙ ap run_numbers c.deref_mut.ensures.value)) (c.requires k h);
      runs = subst (λ runs. AreFollowing set runs numbers []) (sym items) (AreFollowing-begun set old new numbers c.begin_among.ensures over);
    }
