-- How many bundles of a list have a triple.
use Rattle.std.proofs.Common.{◌≡◌, ℕ, ◌+◌, ◌<◌, ◌≤◌, zero, suc, cond, ◌⊎◌, List, [], ◌∷◌, ◌++◌, refl, sym, ap, subst, inl, inr, arith}
use Rattle.std.specs.Bool.{Decides}
use Rattle.std.specs.Prelude.{nat_le}
use Rattle.std.specs.List.{All, Any}
use Rattle.std.specs.List.Sorted.{IsPermutation}
use Rattle.std.proofs.lemmas.Bool.{cases_Bool, cases_lt, leb-true, le-leb}
use Rattle.std.proofs.lemmas.Bool.Decides.{Decides-and, Decides-like, Decides-eqb, not_from_Decides}
use Rattle.std.proofs.lemmas.List.Elements.{All-head, All-tail}
use Rattle.std.proofs.lemmas.List.Sums.{sum_by-cons, sum_by-append}
use Rattle.std.proofs.lemmas.List.Sorted.{sum_by-IsPermutation}
use Rattle.lic_set.specs.declared.triple.Triple.{Triple}
use Rattle.lic_bundles.specs.declared.bundle.Bundle.{Bundle}
use Rattle.lic_bundles.specs.Bundles.{IsOf, AreApart}
use Rattle.lic_bundles.specs.Merging.{is_of, count_of}

Decides-leb : (a b : ℕ) → Decides (nat_le a b) (a ≤ b)
Decides-leb a b = (leb-true a b, le-leb a b)

Decides-is_of : (b : Bundle) (t : Triple) → Decides (is_of t b) (IsOf b t)
Decides-is_of b t =
    Decides-like _ (λ h. record { from = h.0; to = h.1.0; last = h.1.1.0; template = h.1.1.1 })
    (λ h. (h.from, (h.to, (h.last, h.template))))
    (Decides-and _ _ (Decides-leb b.from t.first) (Decides-and _ _ (Decides-leb t.first b.to)
    (Decides-and _ _ (Decides-eqb t.last b.last) (Decides-eqb t.template b.template))))

-- 1 if the triple is one of the bundle's, and 0 if not
abbrev pub one_of : Triple → Bundle → ℕ
one_of t b = cond (is_of t b) 1 0

pub one_cases : (t : Triple) (b : Bundle) → (IsOf b t × (one_of t b ≡ 1)) ⊎ (¬ (IsOf b t) × (one_of t b ≡ 0))
one_cases t b =
    elim (cases_Bool (is_of t b)) [
      | inl holds ↦ inl ((Decides-is_of b t).0 holds, ap (λ r. cond r 1 0) holds)
      | inr fails ↦ inr (not_from_Decides _ (Decides-is_of b t) fails, ap (λ r. cond r 1 0) fails)
    ]

pub count-cons : (t : Triple) (b : Bundle) (bs : List Bundle) → count_of t (b ∷ bs) ≡ one_of t b + count_of t bs
count-cons t b bs = sum_by-cons (one_of t) b bs

pub count-append : (t : Triple) (bs cs : List Bundle) → count_of t (bs ++ cs) ≡ count_of t bs + count_of t cs
count-append t bs cs = sum_by-append (one_of t) bs cs

pub count-IsPermutation : (t : Triple) (bs cs : List Bundle) → IsPermutation bs cs → count_of t cs ≡ count_of t bs
count-IsPermutation t bs cs same = sum_by-IsPermutation (one_of t) bs cs same

pub counted-head : (t : Triple) (b : Bundle) (bs : List Bundle) → IsOf b t → 0 < count_of t (b ∷ bs)
counted-head t b bs h =
    elim (one_cases t b) [
      | inl (of, one) ↦ omega (arith, count-cons t b bs)
      | inr (never, none) ↦ absurd (never h)
    ]

pub counted-tail : (t : Triple) (b : Bundle) (bs : List Bundle) → 0 < count_of t bs → 0 < count_of t (b ∷ bs)
counted-tail t b bs h = omega (arith, count-cons t b bs)

pub counted_cases : (t : Triple) (b : Bundle) (bs : List Bundle) → 0 < count_of t (b ∷ bs) → IsOf b t ⊎ (0 < count_of t bs)
counted_cases t b bs h =
    elim (one_cases t b) [
      | inl (of, one) ↦ inl of
      | inr (never, none) ↦ inr (omega (arith, count-cons t b bs))
    ]

-- a bundle that has a triple which is counted, with what holds of each
pub counted_in : (P : Bundle → Type 0) (t : Triple) (bs : List Bundle) → All P bs → 0 < count_of t bs → (b : Bundle) × P b × IsOf b t
counted_in P t [] all h = absurd (omega arith)
counted_in P t (b ∷ bs) all h =
    elim (counted_cases t b bs h) [
      | inl of ↦ (b, All-head P b bs all, of)
      | inr more ↦ counted_in P t bs (All-tail P b bs all) more
    ]

pub counted-Any : (t : Triple) (bs : List Bundle) → Any (λ b. IsOf b t) bs → 0 < count_of t bs
counted-Any t [] (k, b, within, is, of) = absurd (omega arith)
counted-Any t (c ∷ bs) (zero, b, within, is, of) = counted-head t c bs (subst (λ d. IsOf d t) (sym is) of)
counted-Any t (c ∷ bs) (suc k, b, within, is, of) = counted-tail t c bs (counted-Any t bs (k, b, omega arith, is, of))

pub Any-counted : (t : Triple) (bs : List Bundle) → 0 < count_of t bs → Any (λ b. IsOf b t) bs
Any-counted t [] h = absurd (omega arith)
Any-counted t (b ∷ bs) h =
    elim (counted_cases t b bs h) [
      | inl of ↦ (0, b, omega arith, refl, of)
      | inr more ↦ let (k, c, within, is, of) = Any-counted t bs more in (suc k, c, omega arith, is, of)
    ]

-- of bundles that have no triple in common, no triple is counted twice
pub once_from_apart : (bs : List Bundle) → AreApart bs → (t : Triple) → count_of t bs ≤ 1
once_from_apart [] apart t = omega arith
once_from_apart (b ∷ bs) apart t =
    let fewer : count_of t bs ≤ 1 = once_from_apart bs (λ i j d less high. apart (suc i) (suc j) d (omega arith) (omega arith)) t in
    elim (one_cases t b) [
      | inr (never, none) ↦ omega (arith, count-cons t b bs)
      | inl (of, one) ↦
          elim (cases_lt 0 (count_of t bs)) [
            | inr none ↦ omega (arith, count-cons t b bs)
            | inl some ↦
                let (k, c, within, is, also) = Any-counted t bs some in
                absurd (apart 0 (suc k) c (omega arith) (omega arith) t of (subst (λ d. IsOf d t) (sym is) also))
          ]
    ]
