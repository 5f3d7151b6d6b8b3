use Rattle.std.proofs.Common.{◌++◌, refl, ◌∙◌}
use Rattle.lic_rewriting.proofs.TakenSteps.{none_taken, taken_in_turn}
use Rattle.lic_rewriting.proofs.rewriting.Rewriting.take_until.Goals as goal

pub loop-next-init : goal.loop-next-init
loop-next-init c = record {
  within = c.requires.within;
  taken = none_taken c.args.section.now c.args.from c.args.self.now;
  phrases = refl;
  emptied = c.requires.emptied;
}

pub take_next-requires-clause-before : goal.take_next-requires-clause-before
take_next-requires-clause-before c =
    let first = c.loop-next.invariant.taken c.requires.before.taken c.requires.before.has in
    record { taken = _; has = (c.in_ok-next.ensures.taken (c.requires.before.taken ++ first.0) first.1).1 }

pub loop-next-preserved : goal.loop-next-preserved
loop-next-preserved c =
    let tokens = c.args.section.now in
    let known = c.loop-next.invariant in
    record {
      within = c.in_ok-next-2.ensures.within;
      taken = taken_in_turn tokens c.args.from _ _ c.args.self.now c.take_plain.new.self c.take_next.new.self
          (taken_in_turn tokens c.args.from c.loop-next.next _ c.args.self.now c.loop-next.self c.take_plain.new.self known.taken c.in_ok-next.ensures.taken)
          c.in_ok-next-2.ensures.taken;
      phrases = c.take_next.ensures.phrases ∙ c.take_plain.ensures.phrases ∙ known.phrases;
      emptied = c.in_ok-next-2.ensures.emptied;
    }
