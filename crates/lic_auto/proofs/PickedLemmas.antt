-- Templates that were picked from a set by their numbers.
use Rattle.std.proofs.Common.{◌≡◌, ◌⊎◌, inl, inr, ℕ, zero, suc, List, [], ◌∷◌, Option, Some, None, arith}
use Rattle.std.specs.List.{Contains}
use Rattle.std.proofs.lemmas.Bool.{cases_eq}
use Rattle.std.proofs.Math.Logic.{⊎_elim}
use Rattle.lic_set.specs.Sets.{Known}
use Rattle.lic_auto.specs.Picked.{IsLeastOf, OthersFail}
use Rattle.lic_auto.specs.Runs.{IsLeastDescribing}

-- a list has a number or not
pub contains_or_not : (xs : List ℕ) (x : ℕ) → Contains xs x ⊎ ¬ (Contains xs x)
contains_or_not [] x = inr (λ (k, inside, is). omega arith)
contains_or_not (y ∷ ys) x =
    ⊎_elim
    (λ (same : y ≡ x). inl (0, omega arith, same))
    (λ (apart : y ≡ x → ⊥).
    ⊎_elim
    (λ (later : Contains ys x). let (k, inside, is) = later in inl (suc k, omega arith, is))
    (λ (none : ¬ (Contains ys x)). inr (λ h. not_here apart none h))
    (contains_or_not ys x))
    (cases_eq y x)
  where
    not_here : (y ≡ x → ⊥) → ¬ (Contains ys x) → ¬ (Contains (y ∷ ys) x)
    not_here apart none (zero, inside, is) = apart is
    not_here apart none (suc k, inside, is) = none (k, omega arith, is)

-- where no other template describes the tokens, the least of some is the least of all
pub IsLeastDescribing-of : (set : List Known) (numbers : List ℕ) (ts : List (List ℕ)) (from : ℕ) (r : Option ℕ) → IsLeastOf set numbers ts from r →
    OthersFail set numbers ts → IsLeastDescribing set ts from r
IsLeastDescribing-of set numbers ts from None least others = λ end k known late less there.
    ⊎_elim (λ (inside : Contains numbers k). least end k known inside late less there) (λ
    (gone : ¬ (Contains numbers k)). others k known gone there) (contains_or_not numbers k)
IsLeastDescribing-of set numbers ts from (Some n) (inside, late, is, none) others = (
  late,
  is,
  λ k known late' less there.
      ⊎_elim (λ (within : Contains numbers k). none k known within late' less there) (λ
      (gone : ¬ (Contains numbers k)). others k known gone there) (contains_or_not numbers k),
)
