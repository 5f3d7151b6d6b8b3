-- A flag more in a set.
use Rattle.std.proofs.Common.{◌≡◌, ℕ, ◌*◌, ◌%◌, ◌^◌, ◌<◌, List, length, get_or, set, bit_or, w64, sym, ap, ◌∙◌, subst}
use Rattle.std.specs.Int.{bit_at}
use Rattle.std.proofs.lemmas.Bool.{cases_eq}
use Rattle.std.proofs.lemmas.List.{get_or-set_same, get_or-set_other}
use Rattle.std.proofs.lemmas.Nat.Bits.{bit_at_set_same, bit_at_set_other}
use Rattle.std.proofs.Math.Logic.{⊎_elim}

module _ (words : List ℕ) (i k word : ℕ) (within : i < length words) (low : k < 64) (is : word ≡ get_or words i 0) where
  abbrev with_bit : List ℕ
  with_bit = set words i (bit_or word (1 * 2 ^ k % 2 ^ 64))

  pub bit_here : bit_at (get_or with_bit i 0) k ≡ 1
  bit_here = ap (λ w. bit_at w k) (get_or-set_same words i (bit_or word (1 * 2 ^ k % 2 ^ 64)) 0 within) ∙ bit_at_set_same w64 word k low

  pub bits_kept : (j m : ℕ) → bit_at (get_or words j 0) m ≡ 1 → bit_at (get_or with_bit j 0) m ≡ 1
  bits_kept j m old =
      ⊎_elim
      (λ (same : j ≡ i).
      subst (λ n. bit_at (get_or with_bit n 0) m ≡ 1) (sym same)
      (⊎_elim
      (λ (mine : m ≡ k). subst (λ n. bit_at (get_or with_bit i 0) n ≡ 1) (sym mine) bit_here)
      (λ (other : m ≡ k → ⊥).
      ap (λ w. bit_at w m) (get_or-set_same words i (bit_or word (1 * 2 ^ k % 2 ^ 64)) 0 within) ∙ bit_at_set_other w64 word k low m other
      ∙ ap (λ w. bit_at w m) is ∙ subst (λ n. bit_at (get_or words n 0) m ≡ 1) same old)
      (cases_eq m k)))
      (λ (apart : j ≡ i → ⊥). ap (λ w. bit_at w m) (get_or-set_other words i j (bit_or word (1 * 2 ^ k % 2 ^ 64)) 0 apart) ∙ old)
      (cases_eq j i)
