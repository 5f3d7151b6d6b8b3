use Rattle.std.proofs.lemmas.Simd.{get_or-put_chunk_below}
use Rattle.lic_rows.proofs.Blocks.{moved_here, moved_above}
use Rattle.lic_rows.proofs.lanes.shift_four.Goals as goal

pub returns-clause-below : goal.returns-clause-below
returns-clause-below c = λ k low. get_or-put_chunk_below _ _ _ k 0 low

pub returns-clause-here : goal.returns-clause-here
returns-clause-here c = λ k low high. moved_here c.args.row.now c.args.at k c.requires.low c.requires.within low high

pub returns-clause-above : goal.returns-clause-above
returns-clause-above c = λ k high. moved_above c.args.row.now c.args.at k c.requires.low c.requires.within high
