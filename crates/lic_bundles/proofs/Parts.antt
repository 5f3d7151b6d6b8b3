-- Parts of bundles: their triples but the first, and those that come after a triple.
use Rattle.std.proofs.Common.{◌≡◌, ℕ, ◌+◌, ◌<◌, ◌≤◌, max, ◌⊎◌, List, [], ◌∷◌, ◌++◌, Option, Some, None, refl, sym, subst, inl, inr, ⊎_elim, arith}
use Rattle.std.specs.List.{All, filter_map, cons_option}
use Rattle.std.specs.Option.{option_to_list}
use Rattle.std.specs.Prelude.{nat_le}
use Rattle.std.proofs.lemmas.Bool.{cases_lt, cases_Bool, cond-true, cond-false, le-leb, lt-leb}
use Rattle.std.proofs.lemmas.Bool.Decides.{not_from_Decides}
use Rattle.std.proofs.lemmas.List.Elements.{All-nil, All-cons, All-append}
use Rattle.lic_set.specs.Matches.{Precedes, IsAfter, triple_at, precedes}
use Rattle.lic_set.specs.declared.triple.Triple.{Triple}
use Rattle.lic_bundles.specs.declared.bundle.Bundle.{Bundle}
use Rattle.lic_bundles.specs.Bundles.{IsOf, part_from, first_after, part_after}
use Rattle.lic_bundles.specs.Merging.{count_of}
use Rattle.lic_bundles.proofs.Counting.{one_of, one_cases, count-cons, counted-head, counted_cases}
use Rattle.lic_bundles.proofs.TripleOrder.{same_parts, Decides-precedes}

-- the bundle with another first token
abbrev pub moved : ℕ → Bundle → Bundle
moved first b = record { from = first; to = b.to; last = b.last; template = b.template }

pub part_cases : (n : ℕ) (b : Bundle) → ((n ≤ b.to) × (part_from n b ≡ Some (moved n b))) ⊎ ((b.to < n) × (part_from n b ≡ None))
part_cases n b =
    elim (cases_lt b.to n) [
      | inr within ↦ inl (within, cond-true (nat_le n b.to) (Some (moved n b)) None (le-leb n b.to within))
      | inl past ↦ inr (past, cond-false (nat_le n b.to) (Some (moved n b)) None (lt-leb n b.to past))
    ]

-- of the part of a bundle are the triples of the bundle from this first token on
pub counted_part : (n : ℕ) (b : Bundle) (t : Triple) → IsOf b t → n ≤ t.first → 0 < count_of t (option_to_list (part_from n b))
counted_part n b t of from =
    let to : t.first ≤ b.to = of.to in
    elim (part_cases n b) [
      | inl (within, is) ↦
          subst (λ o. 0 < count_of t (option_to_list o)) (sym is)
          (counted-head t (moved n b) [] (record { from = from; to = of.to; last = of.last; template = of.template }))
      | inr (past, is) ↦ absurd (omega arith)
    ]

pub part_counted : (n : ℕ) (b : Bundle) (t : Triple) → b.from ≤ n → 0 < count_of t (option_to_list (part_from n b)) → IsOf b t × (n ≤ t.first)
part_counted n b t low h =
    elim (part_cases n b) [
      | inr (past, is) ↦ let none : 0 < count_of t [] = subst (λ o. 0 < count_of t (option_to_list o)) is h in absurd (omega arith)
      | inl (within, is) ↦
          ⊎_elim (λ (of : IsOf (moved n b) t).
          let from : n ≤ t.first = of.from in (record { from = omega arith; to = of.to; last = of.last; template = of.template }, from))
          (λ more. absurd (omega (arith, more)))
          (counted_cases t (moved n b) [] (subst (λ o. 0 < count_of t (option_to_list o)) is h))
    ]

one-le : (t : Triple) (b : Bundle) → one_of t b ≤ 1
one-le t b = elim (one_cases t b) [ inl (of, one) ↦ omega arith | inr (never, none) ↦ omega arith ]

count-option : (t : Triple) (o : Option Bundle) → count_of t (option_to_list o) ≤ 1
count-option t None = omega arith
count-option t (Some b) = omega (arith, count-cons t b [], one-le t b)

pub count-part : (n : ℕ) (b : Bundle) (t : Triple) → b.from ≤ n → count_of t (option_to_list (part_from n b)) ≤ one_of t b
count-part n b t low =
    elim (cases_lt 0 (count_of t (option_to_list (part_from n b)))) [
      | inr none ↦ omega arith
      | inl some ↦
          elim (one_cases t b) [
            | inl (of, one) ↦ omega (arith, count-option t (part_from n b))
            | inr (never, none) ↦ absurd (never (part_counted n b t low some).0)
          ]
    ]

-- no part is empty
pub filled_part : (n : ℕ) (b : Bundle) → All (λ c. c.from ≤ c.to) (option_to_list (part_from n b))
filled_part n b =
    elim (part_cases n b) [
      | inr (past, is) ↦ subst (λ o. All (λ c. c.from ≤ c.to) (option_to_list o)) (sym is) (All-nil (λ c. c.from ≤ c.to))
      | inl (within, is) ↦
          subst (λ o. All (λ c. c.from ≤ c.to) (option_to_list o)) (sym is)
          (All-cons (λ c. c.from ≤ c.to) (moved n b) [] within (All-nil (λ c. c.from ≤ c.to)))
    ]

-- Where the triples of a bundle come after a triple.
first_after_cases : (a : Triple) (b : Bundle)
    → (Precedes a (triple_at (max b.from a.first) b.last b.template) × (first_after (Some a) b ≡ max b.from a.first))
    ⊎ (¬ (Precedes a (triple_at (max b.from a.first) b.last b.template)) × (first_after (Some a) b ≡ max b.from a.first + 1))
first_after_cases a b =
    let t : Triple = triple_at (max b.from a.first) b.last b.template in
    elim (cases_Bool (precedes a t)) [
      | inl holds ↦ inl ((Decides-precedes a t).0 holds, cond-true (precedes a t) (max b.from a.first) (max b.from a.first + 1) holds)
      | inr fails ↦ inr (not_from_Decides _ (Decides-precedes a t) fails, cond-false (precedes a t) (max b.from a.first) (max b.from a.first + 1) fails)
    ]

pub from-le-first_after : (after : Option Triple) (b : Bundle) → b.from ≤ first_after after b
from-le-first_after None b = omega arith
from-le-first_after (Some a) b = elim (first_after_cases a b) [ inl (before, is) ↦ omega arith | inr (never, is) ↦ omega arith ]

pub first_after_low : (after : Option Triple) (b : Bundle) (t : Triple) → IsOf b t → IsAfter after t → first_after after b ≤ t.first
first_after_low None b t of h = of.from
first_after_low (Some a) b t of h =
    let from : b.from ≤ t.first = of.from in
    let last : t.last ≡ b.last = of.last in
    let template : t.template ≡ b.template = of.template in
    let high : max b.from a.first ≤ t.first = omega (arith, h) in
    elim (first_after_cases a b) [
      | inl (before, is) ↦ omega arith
      | inr (never, is) ↦
          elim (cases_lt (max b.from a.first) t.first) [
            | inl more ↦ omega arith
            | inr less ↦
                let first : t.first ≡ max b.from a.first = omega arith in
                absurd (never (subst (Precedes a) (same_parts (triple_at (max b.from a.first) b.last b.template) t (sym first) (sym last) (sym template)) h))
          ]
    ]

pub IsAfter-from_first : (after : Option Triple) (b : Bundle) (t : Triple) → IsOf b t → first_after after b ≤ t.first → IsAfter after t
IsAfter-from_first None b t of h = tt
IsAfter-from_first (Some a) b t of h =
    let last : t.last ≡ b.last = of.last in
    let template : t.template ≡ b.template = of.template in
    elim (first_after_cases a b) [
      | inr (never, is) ↦ inl (omega arith)
      | inl (before, is) ↦
          elim (cases_lt a.first t.first) [
            | inl less ↦ inl less
            | inr high ↦
                let first : t.first ≡ max b.from a.first = omega arith in
                subst (Precedes a) (same_parts t (triple_at (max b.from a.first) b.last b.template) first last template) before
          ]
    ]

count-filter_map : (f : Bundle → Option Bundle) (t : Triple) (b : Bundle) (bs : List Bundle)
    → count_of t (filter_map f (b ∷ bs)) ≡ count_of t (option_to_list (f b)) + count_of t (filter_map f bs)
count-filter_map f t b bs = go (f b) where
  go : (o : Option Bundle) → count_of t (cons_option o (filter_map f bs)) ≡ count_of t (option_to_list o) + count_of t (filter_map f bs)
  go None = omega arith
  go (Some c) = omega (arith, count-cons t c (filter_map f bs), count-cons t c [])

module _ (after : Option Triple) where
  -- of the parts of bundles are the triples of the bundles that come after the triple
  pub counted_parts : (bs : List Bundle) (t : Triple) → 0 < count_of t bs → IsAfter after t → 0 < count_of t (filter_map (part_after after) bs)
  counted_parts [] t some h = absurd (omega arith)
  counted_parts (b ∷ bs) t some h =
      let sum = count-filter_map (part_after after) t b bs in
      elim (counted_cases t b bs some) [
        | inl of ↦ omega (arith, sum, counted_part (first_after after b) b t of (first_after_low after b t of h))
        | inr more ↦ omega (arith, sum, counted_parts bs t more h)
      ]

  pub parts_counted : (bs : List Bundle) (t : Triple) → 0 < count_of t (filter_map (part_after after) bs) → (0 < count_of t bs) × IsAfter after t
  parts_counted [] t some = absurd (omega arith)
  parts_counted (b ∷ bs) t some =
      let sum = count-filter_map (part_after after) t b bs in
      elim (cases_lt 0 (count_of t (option_to_list (part_after after b)))) [
        | inl own ↦
            let part = part_counted (first_after after b) b t (from-le-first_after after b) own in
            (counted-head t b bs part.0, IsAfter-from_first after b t part.0 part.1)
        | inr none ↦
            let more = parts_counted bs t (omega (arith, sum)) in
            (omega (arith, count-cons t b bs, more.0), more.1)
      ]

  pub count-parts : (bs : List Bundle) (t : Triple) → count_of t (filter_map (part_after after) bs) ≤ count_of t bs
  count-parts [] t = omega arith
  count-parts (b ∷ bs) t =
      omega (
        arith,
        count-filter_map (part_after after) t b bs,
        count-cons t b bs,
        count-part (first_after after b) b t (from-le-first_after after b),
        count-parts bs t,
      )

  pub filled_parts : (bs : List Bundle) → All (λ c. c.from ≤ c.to) (filter_map (part_after after) bs)
  filled_parts [] = All-nil (λ c. c.from ≤ c.to)
  filled_parts (b ∷ bs) =
      subst (All (λ c. c.from ≤ c.to)) (sym (filter_map-cons (part_after after b)))
      (All-append (λ c. c.from ≤ c.to) (option_to_list (part_after after b)) (filter_map (part_after after) bs)
      (filled_part (first_after after b) b) (filled_parts bs)) where
        filter_map-cons : (o : Option Bundle) → cons_option o (filter_map (part_after after) bs) ≡ option_to_list o ++ filter_map (part_after after) bs
        filter_map-cons None = refl
        filter_map-cons (Some c) = refl
