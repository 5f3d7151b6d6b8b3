-- Two queues of bundles that are merged.
use Rattle.std.specs.Prelude.{◌≡◌, ℕ, ◌+◌, ◌≤◌, ◌==◌, ◌&&◌, nat_le, Bool, true, false, List, [], ◌∷◌, ◌++◌, ◌⊎◌, All, AllPairs, count_by}
use Rattle.lic_set.specs.Matches.{Precedes, triple_at, precedes}
use Rattle.lic_set.specs.declared.triple.Triple.{Triple}
use Rattle.lic_bundles.specs.declared.bundle.Bundle.{Bundle}
use Rattle.lic_bundles.specs.Bundles.{first_of}

-- whether the triple is one of the bundle's
abbrev pub is_of : Triple → Bundle → Bool
is_of t b = nat_le b.from t.first && (nat_le t.first b.to && (t.last == b.last && t.template == b.template))

-- how many of the bundles have the triple
abbrev pub count_of : Triple → List Bundle → ℕ
count_of t bundles = count_by (is_of t) bundles

-- the first triple of the second bundle does not come before that of the first
abbrev pub IsNoLater : Bundle → Bundle → Type 0
IsNoLater b c = ¬ (Precedes (first_of c) (first_of b))

-- the same, if the second bundle had lost its first triple
abbrev pub IsNoLaterThanNext : Bundle → Bundle → Type 0
IsNoLaterThanNext b c = ¬ (Precedes (triple_at (c.from + 1) c.last c.template) (first_of b))

-- Bundles that were begun, and bundles that wait, both in the order of their first triples. None is empty, and no triple is of
-- two. Whichever of them loses its first triple, what is left of it comes no earlier than those that were begun, so that it may
-- go to the end of their queue.
pub record AreQueues (begun waiting : List Bundle) : Type 0 where
  pub filled : All (λ b. b.from ≤ b.to) (begun ++ waiting)
  pub once : (t : Triple) → count_of t (begun ++ waiting) ≤ 1
  pub begun_sorted : AllPairs IsNoLater begun
  pub waiting_sorted : AllPairs IsNoLater waiting
  pub close : All (λ b. All (IsNoLaterThanNext b) (begun ++ waiting)) begun

-- a bundle is taken out of one of the queues, where it is the first
abbrev pub IsTaken : Bundle → List Bundle → List Bundle → List Bundle → List Bundle → Type 0
IsTaken b begun waiting begun_left waiting_left =
    ((begun ≡ b ∷ begun_left) × (waiting_left ≡ waiting)) ⊎ ((waiting ≡ b ∷ waiting_left) × (begun_left ≡ begun))

-- whether the first bundle of one queue comes before that of the other, if this has one
abbrev pub comes_first : List Bundle → List Bundle → Bool
comes_first [] others = false
comes_first (b ∷ bs) [] = true
comes_first (b ∷ bs) (c ∷ cs) = precedes (first_of b) (first_of c)
