use Rattle.std.proofs.Common.{◌≡◌, ◌||◌, map, drop}
use Rattle.lic_markup.specs.Parts.{part_of, sequence, sequence_has_token}
use Rattle.lic_markup.proofs.weights.+has_token.Given as goal

abbrev pub invariant-have_token-loop-i : goal.invariant-have_token-loop-i
invariant-have_token-loop-i l =
    (l.any || sequence_has_token (sequence (map part_of (drop l.i l.parts)))) ≡ sequence_has_token (sequence (map part_of l.parts))
