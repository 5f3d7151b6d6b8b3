use Rattle.std.proofs.Common.{◌-◌, ◌≤◌}
use Rattle.lic_rewriting.specs.Batches.{AreInBatch}
use Rattle.lic_rewriting.proofs.rewriting.batch.spell.Given as goal

-- the tokens so far are in the batch
abbrev pub invariant-loop-state : goal.invariant-loop-state
invariant-loop-state l = record {
  within : l.state.count ≤ l.most;
  held : AreInBatch l.section l.i l.rewriting l.batch l.state;
}

abbrev pub decreases-loop-state : goal.decreases-loop-state
decreases-loop-state l = l.most - l.state.count
