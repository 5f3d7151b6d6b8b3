-- The first n of a list, one at a time.
use Rattle.std.proofs.Common.{◌≡◌, ◌≢◌, ℕ, ◌-◌, List, [], ◌∷◌, take, Option, None, Some, refl, ◌∙◌, ap, arith, zero, suc}
use Rattle.std.specs.Prelude.{MatchOption}
use Rattle.std.proofs.Math.Seq.{take-nil}
use Rattle.lic_report.specs.Report.{first_of}

-- the first n of a list that is not empty
take-step : {X : Type 0} (n : ℕ) (x : X) (xs : List X) → n ≢ 0 → take n (x ∷ xs) ≡ x ∷ take (n - 1) xs
take-step zero x xs h = absurd (h refl)
take-step (suc n) x xs h = let e : n ≡ suc n - 1 = omega arith in ap (λ k. x ∷ take k xs) e

-- the first n, one at a time
pub limited_step : {X : Type 0} (r : Option X) (left : Option ℕ) (n : ℕ) (xs ys : List X) → left ≡ Some n → n ≢ 0
    → MatchOption r ((xs ≡ []) × (ys ≡ [])) (λ x. xs ≡ x ∷ ys)
    → MatchOption r ((first_of left xs ≡ []) × (take (n - 1) ys ≡ [])) (λ x. first_of left xs ≡ x ∷ take (n - 1) ys)
limited_step None left n xs ys e h p = (ap (λ l. first_of l xs) e ∙ ap (take n) p.0 ∙ take-nil n, ap (take (n - 1)) p.1 ∙ take-nil (n - 1))
limited_step (Some x) left n xs ys e h p = ap (λ l. first_of l xs) e ∙ ap (take n) p ∙ take-step n x ys h
