use Rattle.std.proofs.Common.{◌≡◌, ◌++◌, drop, not}
use Rattle.std.specs.Prelude.{find, option_to_list}
use Rattle.std.specs.Char.{is_whitespace}
use Rattle.lic_trim.specs.Sources.{chars_of}
use Rattle.lic_trim.proofs.item.next_dark.Given as goal

abbrev pub invariant-loop-s : goal.invariant-loop-s
invariant-loop-s l = find (λ c. not (is_whitespace c)) (chars_of l.text ++ option_to_list l.past)
    ≡ find (λ c. not (is_whitespace c)) (chars_of (drop l.s-index l.text) ++ option_to_list l.past)
