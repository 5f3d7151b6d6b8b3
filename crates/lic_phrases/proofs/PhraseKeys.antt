-- Two phrases with one key are the same.
use Rattle.std.proofs.Common.{◌≡◌, ℕ, List, [], ◌∷◌, ◌++◌, length, get_or, drop, refl, sym, ap, ap₂, ◌∙◌, append_assoc, length-append, arith}
use Rattle.lic_phrases.specs.Keys.{key_of, HasNoBlank, HaveNoBlank}

same_front : (t u r s : List ℕ) → HasNoBlank t → HasNoBlank u → t ++ 0x20 ∷ r ≡ u ++ 0x20 ∷ s → (t ≡ u) × (r ≡ s)
same_front [] [] r s p q e = (refl, ap (drop 1) e)
same_front [] (c ∷ u) r s p q e = absurd (q.0 (sym (ap (λ l. get_or l 0 0) e)))
same_front (c ∷ t) [] r s p q e = absurd (p.0 (ap (λ l. get_or l 0 0) e))
same_front (c ∷ t) (b ∷ u) r s p q e =
    let rest = same_front t u r s p.1 q.1 (ap (drop 1) e) in
    (ap₂ (λ x l. x ∷ l) (ap (λ l. get_or l 0 0) e) rest.0, rest.1)

step : (t : List ℕ) (texts : List (List ℕ)) → key_of (t ∷ texts) ≡ t ++ 0x20 ∷ key_of texts
step t texts = append_assoc t (0x20 ∷ []) (key_of texts)

pub key_of-same : (a b : List (List ℕ)) → HaveNoBlank a → HaveNoBlank b → key_of a ≡ key_of b → a ≡ b
key_of-same [] [] p q e = refl
key_of-same [] (u ∷ b) p q e = absurd (omega (arith, ap length (e ∙ step u b), length-append u (0x20 ∷ key_of b)))
key_of-same (t ∷ a) [] p q e = absurd (omega (arith, ap length (sym e ∙ step t a), length-append t (0x20 ∷ key_of a)))
key_of-same (t ∷ a) (u ∷ b) p q e =
    let both = same_front t u (key_of a) (key_of b) p.0 q.0 (sym (step t a) ∙ e ∙ step u b) in
    ap₂ (λ x l. x ∷ l) both.0 (key_of-same a b p.1 q.1 both.1)
