-- All instructions are taken.
use Rattle.std.proofs.Common.{◌≡◌, ◌<◌, ◌≤◌, List, length, map, ◌∙◌, sym, ap, subst, arith}
use Rattle.std.proofs.lemmas.List.{length-take}
use Rattle.lic_vars.specs.Moves.{Move}
use Rattle.lic_vars.specs.Cuts.{last_moves, moves_of}
use Rattle.lic_vars.specs.Recorded.{IsWalk}
use Rattle.lic_vars.specs.Sets.{AreSuffixSets}
use Rattle.lic_vars.specs.Views.{value_of}
use Rattle.lic_vars.proofs.KeptLemmas.{sets-front}
use Rattle.lic_vars.proofs.SetLemmas.{last-none}
use Rattle.lic_vars.proofs.StepLemmas.{walk-ends}
use Rattle.lic_vars.proofs.search.least_values.Goals as goal

pub returns : goal.returns
returns c =
    let tokens = c.args.view.now in
    let all = moves_of c.args.instructions.now in
    let letters = c.args.letters.now in
    let walk = c.loop-walk.walk in
    let values = map value_of walk.values.items in
    let none : walk.left ≡ 0 = omega (arith, c.loop-walk-test.false) in
    walk-ends tokens all letters values walk.cut walk.letters.now
    (subst (λ (ms : List Move). IsWalk tokens all ms letters values walk.cut walk.letters.now)
    (ap (last_moves c.args.instructions.now) none ∙ last-none c.args.instructions.now) c.loop-walk.invariant.walk)

pub take_step-requires-clause-sets : goal.take_step-requires-clause-sets
take_step-requires-clause-sets c =
    subst (AreSuffixSets c.args.view.now c.args.instructions.now) (sym c.truncate.ensures.items)
    (sets-front c.args.view.now c.args.instructions.now c.loop-walk.sets.items c.loop-walk.walk.left c.loop-walk-test.true c.loop-walk.invariant.sets)

pub take_step-requires-clause-can : goal.take_step-requires-clause-can
take_step-requires-clause-can c = c.loop-walk.invariant.walk.can

pub loop-walk-preserved : goal.loop-walk-preserved
loop-walk-preserved c =
    let inv = c.loop-walk.invariant in
    let instruction = c.in_ok-take_step.ensures in
    let kept = ap length c.truncate.ensures.items ∙ length-take c.loop-walk.walk.left c.loop-walk.sets.items in
    record {
      within = omega (arith, instruction.fewer, inv.within);
      walk = instruction.walk (moves_of c.args.instructions.now) c.args.letters.now inv.walk;
      sets = instruction.sets;
      enough = omega (arith, instruction.count, instruction.fewer, kept, inv.enough);
    }
