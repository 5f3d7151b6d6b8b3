use Rattle.std.proofs.Common.{refl, ◌∙◌, arith}
use Rattle.lic_rewriting.proofs.TakenSteps.{none_taken, taken_in_turn}
use Rattle.lic_rewriting.proofs.rewriting.Rewriting.take_plain.Goals as goal

pub returns-then-not-keeps_none-clause-taken : goal.returns-then-not-keeps_none-clause-taken
returns-then-not-keeps_none-clause-taken c = none_taken c.args.section.now c.args.i c.args.self.now

pub loop-next-init : goal.loop-next-init
loop-next-init c = record {
  from = omega arith;
  within = c.requires.within;
  taken = none_taken c.args.section.now c.args.i c.args.self.now;
  none = c.keeps_none.ensures c.if-not-keeps_none.false;
  phrases = refl;
  settled = refl;
}

pub loop-next-preserved : goal.loop-next-preserved
loop-next-preserved c =
    let tokens = c.args.section.now in
    let known = c.loop-next.invariant in
    let batch = c.in_ok-after.ensures in
    let one = c.in_ok-next.ensures in
    record {
      from = omega (arith, known.from, batch.from, one.from);
      within = one.within;
      taken = taken_in_turn tokens c.args.i _ _ c.args.self.now c.take_batch.new.self c.take_one.new.self
          (taken_in_turn tokens c.args.i c.loop-next.next _ c.args.self.now c.loop-next.self c.take_batch.new.self known.taken batch.taken)
          one.taken;
      none = c.take_one.ensures.none ∙ c.take_batch.ensures.none ∙ known.none;
      phrases = c.take_one.ensures.phrases ∙ c.take_batch.ensures.phrases ∙ known.phrases;
      settled = c.take_one.ensures.settled ∙ c.take_batch.ensures.settled ∙ known.settled;
    }

pub returns-then-next-after-clause-taken : goal.returns-then-next-after-clause-taken
returns-then-next-after-clause-taken c =
    let tokens = c.args.section.now in
    let known = c.loop-next.invariant in
    taken_in_turn tokens c.args.i _ _ c.args.self.now c.take_batch.new.self c.take_one.new.self
    (taken_in_turn tokens c.args.i c.loop-next.next _ c.args.self.now c.loop-next.self c.take_batch.new.self known.taken c.in_ok-after.ensures.taken)
    c.in_ok-next.ensures.taken
