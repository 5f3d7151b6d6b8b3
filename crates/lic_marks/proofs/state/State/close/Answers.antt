use Rattle.std.proofs.Common.{refl, sym}
use Rattle.lic_marks.specs.Rows.{marks_of}
use Rattle.lic_marks.specs.Nodes.{core_of}
use Rattle.lic_marks.specs.Deciding.{over_blanks}
use Rattle.lic_marks.proofs.Closing.{GathersTo-begin, GathersTo-next, GathersTo-end}
use Rattle.lic_marks.proofs.state.State.close.Goals as goal

pub loop-grew-init : goal.loop-grew-init
loop-grew-init c = record {
  gathers = GathersTo-begin (core_of c.args.tree.now) c.args.self.now.entry c.args.self.now.at_once _ _ c.copy_from.ensures c.step.ensures.marks;
  at_once = refl;
  entry = refl;
  all = λ never. absurd (let e = never in cc);
}

pub loop-grew-preserved : goal.loop-grew-preserved
loop-grew-preserved c =
    let r = core_of c.args.tree.now in
    let all = over_blanks r c.args.self.now.entry (marks_of r c.args.self.now.at_once) in
    record {
      gathers = GathersTo-next r all c.loop-grew.self.after_blanks _ _ _
          c.copy_from-in-loop-grew.ensures c.step-in-loop-grew.ensures.marks (c.join-grew.ensures.marks r) c.loop-grew.invariant.gathers;
      at_once = c.loop-grew.invariant.at_once;
      entry = c.loop-grew.invariant.entry;
      all = λ still. GathersTo-end r all c.loop-grew.self.after_blanks _ _ _
          c.copy_from-in-loop-grew.ensures c.step-in-loop-grew.ensures.marks (c.join-grew.ensures.marks r) c.loop-grew.invariant.gathers (c.join-grew.ensures.same still);
    }

pub returns-clause-after_blanks : goal.returns-clause-after_blanks
returns-clause-after_blanks c = sym (c.loop-grew.invariant.all c.loop-grew-test.false)
