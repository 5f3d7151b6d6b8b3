use Rattle.std.proofs.Common.{◌==◌, refl, ap, ◌∙◌, arith}
use Rattle.std.proofs.lemmas.Nat.Bits.{bit_at_ones}
use Rattle.lic_trim.specs.PieceLengths.{has_bit}
use Rattle.lic_trim.proofs.PieceLengths.{has_bit_zero}
use Rattle.lic_trim.proofs.ascii_sequences.repeated_lengths.Goals as goal

pub text_lengths-requires-clause-begun : goal.text_lengths-requires-clause-begun
text_lengths-requires-clause-begun c = record {
  each = λ i lt begins.
      ap (λ m. has_bit m i) c.below-all.ensures ∙ ap (λ b. b == 1) (bit_at_ones c.len-count.result i (omega (arith, lt)));
}

pub returns-in-Front-clause-mask : goal.returns-in-Front-clause-mask
returns-in-Front-clause-mask c = rw c.in-Front.is has_bit_zero

pub returns-in-Front-clause-once : goal.returns-in-Front-clause-once
returns-in-Front-clause-once c = rw c.in-Front.is refl
