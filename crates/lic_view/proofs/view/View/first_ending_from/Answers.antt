-- Either the token in the middle ends before the place, and so does each before it, or it ends there or after it, and so does each after it.
use Rattle.std.proofs.Common.{ℕ, ◌+◌, ◌-◌, ◌/◌, ◌<◌, length, arith}
use Rattle.lic_tokens.specs.Places.{place_end}
use Rattle.lic_view.proofs.ViewPlaces.{before-middle, from-middle}
use Rattle.lic_view.proofs.view.View.first_ending_from.Goals as goal

pub loop-low-preserved-then-end-place : goal.loop-low-preserved-then-end-place
loop-low-preserved-then-end-place c =
    let middle : ℕ = c.loop-low.low + (c.loop-low.high - c.loop-low.low) / 2 in
    let inside : middle < c.loop-low.high = omega arith in
    let within : middle < length c.args.self.now = omega (arith, c.loop-low.invariant.within) in
    let ends : place_end c.args.self.now middle < c.args.place = omega (arith, c.end.ensures, c.if-end-place.true) in
    let before = before-middle c.args.self.now c.args.place middle c.tokens_have_texts.ensures within ends in
    record {
      order = omega arith;
      within = c.loop-low.invariant.within;
      before = λ i below. before i (omega arith);
      reached = c.loop-low.invariant.reached;
    }

pub loop-low-preserved : goal.loop-low-preserved
loop-low-preserved c =
    let middle : ℕ = c.loop-low.low + (c.loop-low.high - c.loop-low.low) / 2 in
    record {
      order = omega arith;
      within = omega (arith, c.loop-low.invariant.within);
      before = c.loop-low.invariant.before;
      reached = from-middle c.args.self.now c.args.place middle c.tokens_have_texts.ensures (omega (arith, c.end.ensures, c.if-end-place.false));
    }
