use Rattle.std.specs.Prelude.{bit_or}
use Rattle.std.proofs.lemmas.Simd.{get_or-put_chunk_below}
use Rattle.lic_rows.proofs.Blocks.{both_here, both_above}
use Rattle.lic_rows.proofs.lanes.or_four.Goals as goal

pub returns-clause-below : goal.returns-clause-below
returns-clause-below c = λ k low. get_or-put_chunk_below _ _ _ k 0 low

pub returns-clause-here : goal.returns-clause-here
returns-clause-here c = λ k low high. both_here bit_or c.args.into.now c.args.from.now c.args.at k c.requires.within c.requires.from_within low high

pub returns-clause-above : goal.returns-clause-above
returns-clause-above c = λ k high. both_above bit_or c.args.into.now c.args.from.now c.args.at k c.requires.within c.requires.from_within high
