use Rattle.std.proofs.Common.{length, ap}
use Rattle.lic_find.specs.Starts.{starts_in}
use Rattle.lic_find.proofs.StartLemmas.{noted_in-none}
use Rattle.lic_find.proofs.starts.Starts.none.Goals as goal

pub returns-clause-none : goal.returns-clause-none
unfolding starts_in
returns-clause-none c = noted_in-none c.new.result.items c.new-2.result.items (ap length c.new.ensures.items)
