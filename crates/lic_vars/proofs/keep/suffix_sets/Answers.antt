-- One set more.
use Rattle.std.proofs.Common.{◌≡◌, ◌+◌, Bool, length, length-append, length-set, ap, ◌∙◌, arith}
use Rattle.lic_vars.proofs.KeptLemmas.{sets-longer}
use Rattle.lic_vars.proofs.keep.suffix_sets.Goals as goal

pub fill-requires-clause-sets : goal.fill-requires-clause-sets
fill-requires-clause-sets c =
    sets-longer c.args.view.now c.args.instructions.now c.loop-number.sets.items _ c.in_ok-push.ensures.items c.loop-number.invariant.sets

pub loop-number-preserved : goal.loop-number-preserved
loop-number-preserved c =
    let more = ap length c.in_ok-push.ensures.items ∙ length-append c.loop-number.sets.items _ in
    record {
      sets = c.let_go.ensures.sets c.args.view.now c.args.instructions.now c.in_ok-fill.ensures.sets;
      count = omega (arith, c.let_go.ensures.count, c.in_ok-fill.ensures.count, more, c.loop-number.invariant.count);
      stays = omega (arith, length-set {A = Bool}, c.loop-number.invariant.stays);
    }
