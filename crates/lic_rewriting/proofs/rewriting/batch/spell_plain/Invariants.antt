use Rattle.std.proofs.Common.{◌-◌, ◌≤◌}
use Rattle.lic_rewriting.specs.Batches.{AreInBatch}
use Rattle.lic_rewriting.proofs.rewriting.batch.spell_plain.Given as goal

-- the tokens so far are in the batch
abbrev pub invariant-loop-count : goal.invariant-loop-count
invariant-loop-count l = record {
  grown : l.fn.state.count ≤ l.count;
  within : l.count ≤ l.most;
  held : AreInBatch l.section l.i l.rewriting l.batch (record { count = l.count; offset = l.offset; after_word = l.after_word });
}

abbrev pub decreases-loop-count : goal.decreases-loop-count
decreases-loop-count l = l.most - l.count
