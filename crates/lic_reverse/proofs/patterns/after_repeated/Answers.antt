-- One pattern more that is repeated.
use Rattle.std.proofs.Common.{◌≡◌, suc, ◌-◌, ◌<◌, ◌≤◌, length, arith, subst, ⊎_elim}
use Rattle.std.proofs.lemmas.Bool.{cases_lt}
use Rattle.lic_reverse.specs.Tidily.{IsRepeated}
use Rattle.lic_reverse.proofs.EreLemmas.{again}
use Rattle.lic_reverse.proofs.patterns.after_repeated.Goals as goal

pub loop-next-init : goal.loop-next-init
loop-next-init c = record {
  after = omega arith;
  within = omega (arith, c.requires);
  repeated = λ i from to. absurd (omega (arith, from, to));
}

pub loop-next-preserved : goal.loop-next-preserved
loop-next-preserved c =
    let subs = c.args.subs.now in
    let next = c.loop-next.next in
    let below : next < length subs = c.loop-next-test.true in
    let before : next ≡ suc (next - 1) = omega (arith, c.loop-next.invariant.after) in
    let here : IsRepeated subs next =
    again subs next (next - 1) c.index-subs-next.result c.index-subs-next-in-loop-next.result below before c.index-subs-next.is c.index-subs-next-in-loop-next.is
    (c.are_one_letter.ensures c.if-are_one_letter.true) in
    record {
      after = omega (arith, c.loop-next.invariant.after);
      within = omega (arith, below);
      repeated = λ i from to.
          ⊎_elim
          (λ (earlier : i < next). c.loop-next.invariant.repeated i from earlier)
          (λ (reached : next ≤ i). let same : next ≡ i = omega (arith, reached, to) in subst (IsRepeated subs) same here)
          (cases_lt i next);
    }
