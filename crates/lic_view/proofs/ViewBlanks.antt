-- Where a blank leads.
use Rattle.std.proofs.Common.{◌≡◌, ◌⊎◌, inl, inr, ℕ, suc, ◌-◌, List, refl, sym, subst, arith, IsTrue}
use Rattle.lic_tokens.specs.Tokens.{TokenValue}
use Rattle.lic_places.specs.Places.{HasGap, IsAfterBlank, OverBlank, is_blank_at, spelling_of}
use Rattle.lic_places.specs.Places.OverBlank.{over, stays}

-- a blank leads over a blank of the text, or stays
pub over_blank-cases : (tokens : List TokenValue) (p q : ℕ) → OverBlank tokens p q
    → ((q ≡ suc p) × IsTrue (is_blank_at (spelling_of tokens) p))
    ⊎ ((p ≡ q) × ¬ (IsAfterBlank (spelling_of tokens) q) × HasGap tokens q)
over_blank-cases tokens p q (over blank) = inl (refl, blank)
over_blank-cases tokens p q (stays free gap) = inr (refl, free, gap)

-- over the blank before a place
pub over_blank-past : (tokens : List TokenValue) (place : ℕ) → IsAfterBlank (spelling_of tokens) place → OverBlank tokens (place - 1) place
over_blank-past tokens place past =
    let P : ℕ → ℕ → Type 0 = λ p q. OverBlank tokens p q in
    let same : past.0 ≡ place - 1 = omega (arith, past.1) in
    subst (λ q. P (place - 1) q) (sym past.1) (subst (λ p. P p (suc past.0)) same (over past.2))
