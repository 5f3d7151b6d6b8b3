use Rattle.lic_columns.proofs.Listed.{AreListed}
use Rattle.lic_columns.proofs.tokens.list_tokens.Given as goal

abbrev pub invariant-loop-k : goal.invariant-loop-k
invariant-loop-k l = AreListed l.separators l.at l.bytes l.letters l.words l.marks l.k l.starts l.ends l.carried l.mark l.before l.kept
