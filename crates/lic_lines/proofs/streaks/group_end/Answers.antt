use Rattle.std.proofs.Common.{◌∙◌, sym, arith}
use Rattle.lic_lines.specs.Cells.{Blank}
use Rattle.lic_lines.specs.Groupings.{together}
use Rattle.lic_lines.proofs.GroupLemmas.{group_at}
use Rattle.lic_lines.proofs.streaks.group_end.Goals as goal

pub returns-else-together-clause-group : goal.returns-else-together-clause-group
returns-else-together-clause-group c =
    group_at (together c.args.grouping) c.args.cells.now c.args.from c.loop-end.end Blank c.loop-end.invariant.after c.loop-end.invariant.within c.loop-end.invariant.each (λ lt. sym c.together.ensures ∙ c.if-together.false)

pub returns-after-loop-end-clause-group : goal.returns-after-loop-end-clause-group
returns-after-loop-end-clause-group c =
    group_at (together c.args.grouping) c.args.cells.now c.args.from c.loop-end.end Blank c.loop-end.invariant.after c.loop-end.invariant.within c.loop-end.invariant.each (λ lt. absurd (omega arith))
