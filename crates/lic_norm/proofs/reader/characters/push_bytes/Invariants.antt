use Rattle.std.proofs.Common.{◌≡◌, ◌+◌, ◌-◌, ◌≤◌, ◌++◌, length, drop}
use Rattle.lic_trim.specs.Sources.{without_dropped}
use Rattle.lic_norm.specs.Sources.{source_of}
use Rattle.lic_norm.proofs.reader.characters.push_bytes.Given as goal

-- the characters so far, and those that are left
abbrev pub invariant-loop-offset : goal.invariant-loop-offset
invariant-loop-offset l = record {
  within : l.offset ≤ length l.bytes;
  added : l.characters.items ++ without_dropped (source_of (l.fn.at + l.offset) (drop l.offset l.bytes))
      ≡ l.fn.characters.items ++ without_dropped (source_of l.fn.at l.bytes);
}

abbrev pub decreases-loop-offset : goal.decreases-loop-offset
decreases-loop-offset l = length l.bytes - l.offset
