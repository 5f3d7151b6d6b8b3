use Rattle.std.proofs.Common.{◌≡◌, ◌-◌, ◌^◌, ◌==◌, min, true, ap, ◌∙◌, arith}
use Rattle.std.proofs.lemmas.Bool.{or_right}
use Rattle.std.proofs.lemmas.List.{get_or-replicate}
use Rattle.std.proofs.lemmas.Nat.Bits.{bit_at_ones}
use Rattle.lic_kind.specs.Beginnings.{has_bit}
use Rattle.lic_kind.proofs.BeginningLemmas.{of_both}
use Rattle.lic_kind.proofs.rules.beginnings.Beginnings.open.Goals as goal

pub returns : goal.returns
returns c = λ k text small a d may.
    let on : has_bit (2 ^ 64 - 1) k ≡ true = ap (λ b. b == 1) (bit_at_ones 64 k small) in
    of_both _ _ (2 ^ 64 - 1) k (ap (λ n. has_bit n k) (get_or-replicate 256 (min a 255) (2 ^ 64 - 1) 0 (omega arith)) ∙ on) (or_right _ _ on)
