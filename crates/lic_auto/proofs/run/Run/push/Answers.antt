use Rattle.std.proofs.Common.{◌++◌, ◌∷◌, [], length, sym, ap, ◌∙◌, subst, arith}
use Rattle.std.specs.List.{Contains}
use Rattle.std.specs.Str.{chars}
use Rattle.std.specs.Vec.{with_items}
use Rattle.std.proofs.lemmas.List.{with_items_is}
use Rattle.lic_set.specs.Rising.{IsRising}
use Rattle.lic_auto.specs.TemplateRuns.{AreFollowing, AreOver, Takes, run_numbers}
use Rattle.lic_auto.proofs.Following.{AreFollowing-taken, AreOver-changed, taken-numbers}
use Rattle.lic_auto.proofs.run.Run.push.Goals as goal

pub returns-clause-numbers : goal.returns-clause-numbers
returns-clause-numbers c =
    let self = c.args.self.now in
    ap run_numbers (with_items_is self.runs c.push_to_all.new.runs (omega (arith, c.push_to_all.auto, c.deref_mut.ensures.len)))
    ∙ taken-numbers (chars c.args.text.now) c.deref_mut.result.now c.push_to_all.new.runs c.push_to_all.ensures
    ∙ ap run_numbers c.deref_mut.ensures.value

pub invariant_of-self : goal.invariant_of-self
invariant_of-self c =
    let self = c.args.self.now in
    let set = self.set.now in
    let old = c.deref_mut.result.now in
    let new = c.push_to_all.new.runs in
    let items = with_items_is self.runs new (omega (arith, c.push_to_all.auto, c.deref_mut.ensures.len)) in
    record {
      rising = subst (λ xs. IsRising xs (length set))
          (sym (ap run_numbers items ∙ taken-numbers (chars c.args.text.now) old new c.push_to_all.ensures ∙ ap run_numbers c.deref_mut.ensures.value)) self.rising;
      over = subst (AreOver set) (sym items)
          (AreOver-changed set old new (Takes (chars c.args.text.now)) (λ a b change. change.tree) (λ a b change. change.number)
          c.push_to_all.ensures (subst (AreOver set) (sym c.deref_mut.ensures.value) self.over));
    }

pub returns-clause-among : goal.returns-clause-among
returns-clause-among c = λ numbers ts s.
    let self = c.args.self.now in
    let set = self.set.now in
    let token = chars c.args.text.now in
    let old = c.deref_mut.result.now in
    let new = c.push_to_all.new.runs in
    let items = with_items_is self.runs new (omega (arith, c.push_to_all.auto, c.deref_mut.ensures.len)) in
    let before : AreFollowing set old numbers ts = subst (λ runs. AreFollowing set runs numbers ts) (sym c.deref_mut.ensures.value) s.runs in
    record {
      some = λ k h. subst (λ xs. Contains xs k)
          (sym (ap run_numbers items ∙ taken-numbers token old new c.push_to_all.ensures ∙ ap run_numbers c.deref_mut.ensures.value)) (s.some k h);
      runs = subst (λ runs. AreFollowing set runs numbers (ts ++ token ∷ [])) (sym items)
          (AreFollowing-taken set old new numbers token ts c.push_to_all.ensures before);
    }

pub returns-clause-taken : goal.returns-clause-taken
returns-clause-taken c = λ ts s.
    let self = c.args.self.now in
    record {
      some = λ k h. h;
      runs = subst (λ numbers. AreFollowing self.set.now (with_items self.runs c.push_to_all.new.runs).items numbers (ts ++ chars c.args.text.now ∷ []))
          (sym (returns-clause-numbers c)) (returns-clause-among c (run_numbers self.runs.items) ts s).runs;
    }
