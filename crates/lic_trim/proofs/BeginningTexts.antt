-- What shows that a way does not begin with a text.
use Rattle.std.proofs.Common.{◌≡◌, ◌≢◌, ℕ, zero, suc, ◌<◌, ◌&&◌, ◌==◌, Bool, true, false, List, [], ◌∷◌, length, get_or, refl, ap, arith}
use Rattle.std.proofs.lemmas.Bool.{eqb-true, and_right}
use Rattle.lic_trim.specs.Walks.{begins_with_text}

pub occurs_short : (way text : List ℕ) → length way < length text → begins_with_text way text ≡ false
occurs_short way [] short = absurd (omega arith)
occurs_short [] (c ∷ text) short = refl
occurs_short (d ∷ way) (c ∷ text) short = and_right (d == c) (begins_with_text way text) (occurs_short way text (omega arith))

pub occurs_other : (way text : List ℕ) (i : ℕ) → i < length way → i < length text → get_or way i 0 ≢ get_or text i 0 → begins_with_text way text ≡ false
occurs_other [] text i within inside other = absurd (omega arith)
occurs_other (d ∷ way) [] i within inside other = absurd (omega arith)
occurs_other (d ∷ way) (c ∷ text) zero within inside other = ap (λ b. b && begins_with_text way text) (apart (d == c) refl)
  where
    apart : (b : Bool) → (d == c) ≡ b → (d == c) ≡ false
    apart false is = is
    apart true is = absurd (other (eqb-true d c is))
occurs_other (d ∷ way) (c ∷ text) (suc i) within inside other =
    and_right (d == c) (begins_with_text way text) (occurs_other way text i (omega arith) (omega arith) other)
