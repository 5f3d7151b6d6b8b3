use Rattle.std.proofs.Common.{◌≡◌, length}
use Rattle.lic_ere.specs.Reading.{start, read_from}
use Rattle.lic_ere.specs.Views.{left, state_of}
use Rattle.lic_ere.proofs.reading.read_all.Given as goal

-- what is left, read from the state so far, gives what all gives
abbrev pub invariant-loop-first : goal.invariant-loop-first
invariant-loop-first l = read_from (state_of l.reader) (left l.rest) ≡ read_from start (left l.all)

abbrev pub decreases-loop-first : goal.decreases-loop-first
decreases-loop-first l = length (left l.rest)
