-- One set more.
use Rattle.std.proofs.Common.{◌≡◌, ◌<◌, ◌+◌, ◌-◌, inl, inr, length, length-set, set, Some, refl, sym, ◌∙◌, subst, arith}
use Rattle.std.proofs.lemmas.Bool.{cases_lt}
use Rattle.lic_vars.specs.Cuts.{AreFinishing, last_moves}
use Rattle.lic_vars.specs.Sets.{IsThere}
use Rattle.lic_vars.proofs.KeptLemmas.{IsThere-put, IsThere-stays, sets-put}
use Rattle.lic_vars.proofs.sets.fill.Goals as goal

pub loop-before-init : goal.loop-before-init
loop-before-init c =
    let there = rw c.deref.ensures.value at c.start_of-start.ensures.there in
    record {
      sets = c.requires.sets;
      count = refl;
      stay = λ k h. h;
      made = λ k from to.
          let same : c.start_of-start.result ≡ k = omega arith in
          subst (IsThere c.args.sets.now.items) same there;
    }

pub set_before-requires-clause-rest : goal.set_before-requires-clause-rest
set_before-requires-clause-rest c =
    let before = c.loop-before.before in
    let same : before ≡ before + 1 - 1 = omega arith in
    subst (λ s. IsThere s (before + 1 - 1)) (sym c.deref-in-loop-before.ensures.value)
    (subst (IsThere c.loop-before.sets.items) same (c.loop-before.invariant.made before (omega (arith, c.loop-before.auto.before)) (omega arith)))

pub set_before-requires-clause-others : goal.set_before-requires-clause-others
set_before-requires-clause-others c = λ other is.
    let before = c.loop-before.before in
    subst (λ s. IsThere s other) (sym c.deref-in-loop-before.ensures.value)
    (elim (c.start_of-start.ensures.others (before + 1) other (omega (arith, c.loop-before.auto.before)) (omega (arith, c.loop-before-test.true)) is) [
      | inl there ↦ c.loop-before.invariant.stay other (subst (λ s. IsThere s other) c.deref.ensures.value there)
      | inr from ↦ c.loop-before.invariant.made other from (omega (arith, is.is))
    ])

pub loop-before-preserved : goal.loop-before-preserved
loop-before-preserved c =
    let tokens = c.args.view.now in
    let instructions = c.args.instructions.now in
    let items = c.loop-before.sets.items in
    let next = c.loop-before.before + 1 in
    let spans = c.shrink_to_fit.new.self in
    let finish = subst (AreFinishing tokens (last_moves instructions next)) (sym c.shrink_to_fit.ensures.items) c.in_ok-set.ensures in
    let inv = c.loop-before.invariant in
    let within : next < length items = omega (arith, inv.count, c.loop-before-test.true, c.requires.enough) in
    record {
      sets = sets-put tokens instructions items next spans inv.sets within finish;
      count = length-set items next (Some spans) ∙ inv.count;
      stay = λ k there. IsThere-stays items k next spans within (inv.stay k there);
      made = λ k from to. elim (cases_lt k next) [
        | inl less ↦ IsThere-stays items k next spans within (inv.made k from (omega arith))
        | inr more ↦
            let same : next ≡ k = omega arith in
            subst (IsThere (set items next (Some spans))) same (IsThere-put items next spans within)
      ];
    }

pub returns-clause-there : goal.returns-clause-there
returns-clause-there c = c.loop-before.invariant.made c.args.number c.start_of-start.ensures.below (omega (arith, c.loop-before-test.false))
