use Rattle.std.proofs.Common.{◌-◌, ◌≤◌, length, take}
use Rattle.lic_kind.specs.LineRules.{rules_of}
use Rattle.lic_letters.specs.PlainLines.{ArePlainLines}
use Rattle.lic_letters.specs.Simple.{AreDone}
use Rattle.lic_letters.proofs.plain.spell_lines.Given as goal

abbrev pub invariant-loop-count : goal.invariant-loop-count
invariant-loop-count l = (l.at ≤ l.done) × AreDone l.bytes l.done l.spelled.items × ArePlainLines (rules_of l.rules) (take l.at l.bytes)

abbrev pub decreases-loop-count : goal.decreases-loop-count
decreases-loop-count l = length l.bytes - l.at
