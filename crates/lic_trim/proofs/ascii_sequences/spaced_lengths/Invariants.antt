use Rattle.std.proofs.Common.{◌≡◌, ℕ, take, drop}
use Rattle.std.specs.List.{list_any}
use Rattle.lic_kind.specs.LineRules.{texts_of}
use Rattle.lic_trim.specs.PieceLengths.{has_bit, begins_with_spaced}
use Rattle.lic_trim.specs.Walks.{walked}
use Rattle.lic_trim.proofs.ascii_sequences.spaced_lengths.Given as goal

-- the lengths of the texts so far
abbrev pub invariant-loop-i : goal.invariant-loop-i
invariant-loop-i l = (n : ℕ) → has_bit l.mask n
    ≡ list_any (λ t. begins_with_spaced n (drop l.index (walked l.side l.line)) (walked l.side t)) (take l.i (texts_of l.texts))
