use Rattle.std.proofs.Common.{◌≡◌, ◌+◌, ◌*◌, ◌&&◌, Bool, true, false, get_or, length, refl, ap, sym, ◌∙◌, arith}
use Rattle.lic_columns.specs.Marks.{is_joining}
use Rattle.lic_letters.proofs.BitLemmas.{has_bit_and, has_bit_zero}
use Rattle.lic_columns.proofs.ColumnLemmas.{some_inside}
use Rattle.lic_columns.proofs.marks.joining.Goals as goal
use Rattle.lic_trim.specs.PieceLengths.{has_bit}

and_when : (t u v : Bool) → (t ≡ true → u ≡ v) → (t && u) ≡ (t && v)
and_when true u v h = h refl
and_when false u v h = refl

pub joining_offsets-requires : goal.joining_offsets-requires
joining_offsets-requires c =
    some_inside c.args.offsets c.args.k (length c.args.letters.now) c.ranges.offsets.fits (omega (arith, c.if-offsets-eq0.false)) c.requires

pub returns-then-offsets-eq0 : goal.returns-then-offsets-eq0
returns-then-offsets-eq0 c = λ i small.
    has_bit_zero i ∙ sym (ap (λ t. t && is_joining (get_or c.args.letters.now (c.args.k * 64 + i) 0)) (ap (λ m. has_bit m i) c.if-offsets-eq0.true ∙ has_bit_zero i))

pub returns : goal.returns
returns c = λ i small.
    has_bit_and c.args.offsets c.joining_offsets.result i
    ∙ and_when (has_bit c.args.offsets i) _ _ (λ set. c.joining_offsets.ensures i small (c.requires i small set))
