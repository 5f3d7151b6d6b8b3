-- From words to bits.
use Rattle.std.proofs.Common.{◌≡◌, ℕ, zero, suc, ◌/◌, ◌%◌, ◌<◌, ◌≤◌, List, get_or, length, refl, ap, sym, ◌∙◌, arith, min, max, ◌&&◌, ◌||◌}
use Rattle.std.proofs.Common.{inl, inr}
use Rattle.std.proofs.lemmas.Bool.{cases_lt}
use Rattle.std.proofs.lemmas.List.{get_or_past}
use Rattle.std.proofs.lemmas.Nat.Bits.{bit_at_or, bit_at_and, bit_at-lt}
use Rattle.std.specs.Prelude.{bit_or, bit_and, ◌==◌}
use Rattle.std.specs.Int.{bit_at}
use Rattle.lic_rows.specs.Bits.{has}
use Rattle.lic_rows.proofs.Steps.{Done}

either : (m n : ℕ) → m < 2 → n < 2 → (max m n == 1) ≡ ((m == 1) || (n == 1))
either zero zero p q = refl
either zero (suc zero) p q = refl
either (suc zero) zero p q = refl
either (suc zero) (suc zero) p q = refl
either (suc (suc m)) n p q = absurd (omega arith)
either m (suc (suc n)) p q = absurd (omega arith)

both : (m n : ℕ) → m < 2 → n < 2 → (min m n == 1) ≡ ((m == 1) && (n == 1))
both zero zero p q = refl
both zero (suc zero) p q = refl
both (suc zero) zero p q = refl
both (suc zero) (suc zero) p q = refl
both (suc (suc m)) n p q = absurd (omega arith)
both m (suc (suc n)) p q = absurd (omega arith)

pub has_or : (old from new : List ℕ) (b : ℕ) → get_or new (b / 64) 0 ≡ bit_or (get_or old (b / 64) 0) (get_or from (b / 64) 0)
    → has new b ≡ (has old b || has from b)
has_or old from new b word =
    let x : ℕ = get_or old (b / 64) 0 in
    let y : ℕ = get_or from (b / 64) 0 in
    ap (λ w. bit_at w (b % 64) == 1) word ∙ ap (λ n. n == 1) (bit_at_or x y (b % 64))
    ∙ either (bit_at x (b % 64)) (bit_at y (b % 64)) (bit_at-lt x (b % 64)) (bit_at-lt y (b % 64))

pub has_and : (old from new : List ℕ) (b : ℕ) → get_or new (b / 64) 0 ≡ bit_and (get_or old (b / 64) 0) (get_or from (b / 64) 0)
    → has new b ≡ (has old b && has from b)
has_and old from new b word =
    let x : ℕ = get_or old (b / 64) 0 in
    let y : ℕ = get_or from (b / 64) 0 in
    ap (λ w. bit_at w (b % 64) == 1) word ∙ ap (λ n. n == 1) (bit_at_and x y (b % 64))
    ∙ both (bit_at x (b % 64)) (bit_at y (b % 64)) (bit_at-lt x (b % 64)) (bit_at-lt y (b % 64))

module _ (f : ℕ → ℕ → ℕ) (old from new : List ℕ) (at : ℕ) (done : Done f old from new at) (all : length new ≤ at)
    (same : length old ≡ length new) (other : length from ≡ length new) (none : f 0 0 ≡ 0) where
  pub word_done : (k : ℕ) → get_or new k 0 ≡ f (get_or old k 0) (get_or from k 0)
  word_done k = elim (cases_lt k at) [
    | inl low ↦ done.below k low
    | inr high ↦
        let n : length new ≤ k = omega arith in
        get_or_past new k 0 n ∙ sym none ∙ ap (λ x. f x 0) (sym (get_or_past old k 0 (omega arith)))
        ∙ ap (λ y. f (get_or old k 0) y) (sym (get_or_past from k 0 (omega arith)))
  ]
