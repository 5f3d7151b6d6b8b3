-- One number lower.
use Rattle.std.proofs.Common.{◌≡◌, true, inl, inr, subst, arith, rules}
use Rattle.std.proofs.lemmas.Bool.{cases_lt}
use Rattle.lic_vars.specs.Sets.{IsOther}
use Rattle.lic_vars.proofs.KeptLemmas.{HasOther-less}
use Rattle.lic_vars.proofs.sets.start_of.Goals as goal

pub loop-needed-preserved : goal.loop-needed-preserved
loop-needed-preserved c =
    let sets = c.args.sets.now in
    let low = c.loop-needed.low in
    record {
      below = omega (arith, c.loop-needed.invariant.below);
      others = λ k other above within is. elim (cases_lt low k) [
        | inl over ↦
            HasOther-less sets c.loop-needed.needed c.min-needed.result other (omega (arith, c.min-needed.ensures)) (c.loop-needed.invariant.others k other over within is)
        | inr under ↦
            let same : k ≡ low = omega arith in
            HasOther-less sets c.missing_for.result c.min-needed.result other (omega (arith, c.min-needed.ensures))
            (c.missing_for.ensures other (subst (λ n. IsOther c.args.instructions.now n other) same is))
      ];
    }

pub returns : goal.returns
returns c =
    let sets = c.args.sets.now in
    let there : c.is_there.result ≡ true = search (rules, c.if-not-is_there.false) in
    record {
      below = c.loop-needed.invariant.below;
      there = c.is_there.ensures.0 there;
      others = λ k other above within is.
          HasOther-less sets c.loop-needed.needed c.loop-needed.low other c.if-needed-low.false (c.loop-needed.invariant.others k other above within is);
    }
