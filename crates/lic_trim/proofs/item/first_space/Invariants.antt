use Rattle.std.proofs.Common.{◌≡◌, ℕ, ◌<◌, false, get_or}
use Rattle.std.specs.Char.{is_whitespace}
use Rattle.lic_trim.specs.Sources.{chars_of}
use Rattle.lic_trim.proofs.item.first_space.Given as goal

abbrev pub invariant-loop-index : goal.invariant-loop-index
invariant-loop-index l = (k : ℕ) → k < l.index → is_whitespace (get_or (chars_of l.text) k 0) ≡ false
