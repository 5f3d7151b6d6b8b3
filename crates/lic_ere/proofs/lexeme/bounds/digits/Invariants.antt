use Rattle.std.proofs.Common.{◌≡◌, ◌≤◌, ◌||◌, not, eqb, min, length, drop}
use Rattle.std.specs.Str.Parse.{digits_value, digits_value_after}
use Rattle.lic_ere.specs.Bounds.{digits}
use Rattle.lic_ere.specs.Views.{left}
use Rattle.lic_ere.proofs.lexeme.bounds.digits.Given as goal

-- the number so far, with the digits that are left, is the number of all
abbrev pub invariant-loop-character : goal.invariant-loop-character
invariant-loop-character l =
    record {
      small : l.value ≤ 65536;
      value : min (digits_value_after 10 l.value (digits (left l.rest))) 65536 ≡ min (digits_value 10 (digits (left l.all))) 65536;
      some : (l.is_some || not (eqb (length (digits (left l.rest))) 0)) ≡ not (eqb (length (digits (left l.all))) 0);
      rest : drop (length (digits (left l.rest))) (left l.rest) ≡ drop (length (digits (left l.all))) (left l.all);
    }

abbrev pub decreases-loop-character : goal.decreases-loop-character
decreases-loop-character l = length (left l.rest)
