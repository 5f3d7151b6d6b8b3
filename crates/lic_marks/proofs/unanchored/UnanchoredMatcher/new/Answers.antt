use Rattle.lic_marks.specs.Nodes.{core_of}
use Rattle.lic_marks.proofs.unanchored.UnanchoredMatcher.new.Goals as goal

pub returns-clause-taken : goal.returns-clause-taken
returns-clause-taken c = λ e words. record { words = words; taken = c.clear.ensures.taken (core_of c.args.tree); last = tt }
