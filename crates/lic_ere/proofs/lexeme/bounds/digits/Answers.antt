use Rattle.std.proofs.Common.{ℕ, min, List, ap, sym, ◌∙◌, arith}
use Rattle.std.specs.Str.Parse.{digits_value_after}
use Rattle.lic_ere.specs.Bounds.{digits}
use Rattle.lic_ere.specs.Views.{left}
use Rattle.lic_ere.proofs.BoundLemmas.{digits_turn, number_turn, some_turn, rest_turn}
use Rattle.lic_ere.proofs.lexeme.bounds.digits.Goals as goal

pub loop-character-preserved : goal.loop-character-preserved
loop-character-preserved c =
    let inv = c.loop-character.invariant in
    let all = c.in-Some.ensures.some in
    let turn = digits_turn _ (left c.loop-character.rest) (left c.in-Some.after) all c.in-Some-to_digit.ensures.value.0 in
    record {
      small = omega (arith, c.min-value.ensures);
      value = number_turn _ _ _ c.in-Some.character _
          (digits (left c.in-Some.after)) c.in-Some-to_digit.ensures.value.1 c.min-value.ensures
          (ap (λ (ds : List ℕ). min (digits_value_after 10 c.loop-character.value ds) 65536) (sym turn) ∙ inv.value);
      some = some_turn c.loop-character.is_some _ c.in-Some.character _ _ turn inv.some;
      rest = rest_turn _ _ _ _ _ _ all turn inv.rest;
    }
