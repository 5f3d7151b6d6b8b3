-- Between two marks that are neither the same nor of one family no streak is joined.
use Rattle.std.proofs.Common.{◌≡◌, Bool, true, false, cond, List, [], ◌∷◌, ◌++◌, length, refl, sym, ap, ap₂, ◌∙◌, ◌⊎◌, inl, inr, ⊎_elim, append_assoc}
use Rattle.std.specs.Prelude.{nat_le}
use Rattle.std.specs.List.{flat_map}
use Rattle.std.proofs.lemmas.List.{append-nil}
use Rattle.std.proofs.lemmas.List.Concat.{flat_map-append}
use Rattle.lic_trim.specs.Texts.{groups}
use Rattle.lic_kind.specs.LineRules.{LineRules}
use Rattle.lic_lines.specs.Cells.{Cell, Blank, Mark, Word}
use Rattle.lic_lines.specs.Streaks.{same_mark, same_family, without_separator, without_separators, joined, with_joined, streaks_joined}
use Rattle.lic_lines.proofs.Gaps.{no_family_before}
use Rattle.lic_lines.proofs.GroupLemmas.{groups_end, groups_head, groups_seam}

-- a list that ends in this cell or in a blank, and one that begins so
abbrev EndsIn : Cell → List Cell → Type 0
EndsIn x cells = (front : List Cell) × (z : Cell) × (cells ≡ front ++ z ∷ []) × ((z ≡ Blank) ⊎ (z ≡ x))

abbrev BeginsIn : Cell → List Cell → Type 0
BeginsIn y cells = (w : Cell) × (rest : List Cell) × (cells ≡ w ∷ rest) × ((w ≡ Blank) ⊎ (w ≡ y))

streak_end : (g : List Cell) (x : Cell) → EndsIn x (without_separator (g ++ x ∷ []))
streak_end [] Blank = ([], Blank, refl, inl refl)
streak_end [] (Mark s) = ([], Mark s, refl, inr refl)
streak_end [] (Word s) = ([], Word s, refl, inr refl)
streak_end (Blank ∷ g) x = (Blank ∷ g, x, refl, inr refl)
streak_end (Word s ∷ g) x = (Word s ∷ g, x, refl, inr refl)
streak_end (Mark s ∷ g) x = at (nat_le 2 (length (g ++ x ∷ [])))
  where
    at : (b : Bool) → EndsIn x (cond b (Blank ∷ []) (Mark s ∷ g ++ x ∷ []))
    at true = ([], Blank, refl, inl refl)
    at false = (Mark s ∷ g, x, refl, inr refl)

streak_front : (y : Cell) (g : List Cell) → BeginsIn y (without_separator (y ∷ g))
streak_front Blank g = (Blank, g, refl, inl refl)
streak_front (Word s) g = (Word s, g, refl, inr refl)
streak_front (Mark s) g = at (nat_le 2 (length g))
  where
    at : (b : Bool) → BeginsIn (Mark s) (cond b (Blank ∷ []) (Mark s ∷ g))
    at true = (Blank, [], refl, inl refl)
    at false = (Mark s, g, refl, inr refl)

parted_end : (xs : List Cell) (x : Cell) → EndsIn x (without_separators (xs ++ x ∷ []))
parted_end xs x =
    let last = groups_end same_mark xs x in
    let streak = streak_end last.1 x in
    let front = flat_map without_separator last.0 in (
      front ++ streak.0,
      streak.1,
      ap (flat_map without_separator) last.2 ∙ flat_map-append without_separator last.0 ((last.1 ++ x ∷ []) ∷ [])
          ∙ ap (λ l. front ++ l) (append-nil (without_separator (last.1 ++ x ∷ [])) ∙ streak.2)
          ∙ sym (append_assoc front streak.0 (streak.1 ∷ [])),
      streak.3,
    )

parted_front : (y : Cell) (ys : List Cell) → BeginsIn y (without_separators (y ∷ ys))
parted_front y ys =
    let first = groups_head same_mark y ys in
    let streak = streak_front y first.0 in
    let rest = flat_map without_separator first.1 in (
      streak.0,
      streak.1 ++ rest,
      ap (flat_map without_separator) first.2 ∙ ap (λ l. l ++ rest) streak.2,
      streak.3,
    )

no_family : (x y z w : Cell) → same_family x y ≡ false → (z ≡ Blank) ⊎ (z ≡ x) → (w ≡ Blank) ⊎ (w ≡ y) → same_family z w ≡ false
no_family x y z w apart last first =
    ⊎_elim
    (λ blank. ap (λ c. same_family c w) blank)
    (λ is. ⊎_elim
    (λ blank. ap (same_family z) blank ∙ no_family_before Blank z refl)
    (λ next. ap₂ same_family is next ∙ apart)
    first)
    last

with_joined-seam : (xs : List Cell) (x y : Cell) (ys : List Cell) → same_family x y ≡ false
    → with_joined (xs ++ x ∷ y ∷ ys) ≡ with_joined (xs ++ x ∷ []) ++ with_joined (y ∷ ys)
with_joined-seam xs x y ys apart =
    ap (flat_map joined) (groups_seam same_family xs x y ys apart)
    ∙ flat_map-append joined (groups same_family (xs ++ x ∷ [])) (groups same_family (y ∷ ys))

without_separators-seam : (xs : List Cell) (x y : Cell) (ys : List Cell) → same_mark x y ≡ false
    → without_separators (xs ++ x ∷ y ∷ ys) ≡ without_separators (xs ++ x ∷ []) ++ without_separators (y ∷ ys)
without_separators-seam xs x y ys apart =
    ap (flat_map without_separator) (groups_seam same_mark xs x y ys apart)
    ∙ flat_map-append without_separator (groups same_mark (xs ++ x ∷ [])) (groups same_mark (y ∷ ys))

pub streaks_joined-seam : (rules : LineRules) (xs : List Cell) (x y : Cell) (ys : List Cell) → same_mark x y ≡ false → same_family x y ≡ false
    → streaks_joined rules (xs ++ x ∷ y ∷ ys) ≡ streaks_joined rules (xs ++ x ∷ []) ++ streaks_joined rules (y ∷ ys)
streaks_joined-seam rules xs x y ys other apart = at rules.separators
  where
    parted : with_joined (without_separators (xs ++ x ∷ y ∷ ys))
        ≡ with_joined (without_separators (xs ++ x ∷ [])) ++ with_joined (without_separators (y ∷ ys))
    parted =
        let last = parted_end xs x in
        let first = parted_front y ys in
        ap with_joined (without_separators-seam xs x y ys other ∙ ap₂ (λ a b. a ++ b) last.2 first.2
        ∙ append_assoc last.0 (last.1 ∷ []) (first.0 ∷ first.1))
        ∙ with_joined-seam last.0 last.1 first.0 first.1 (no_family x y last.1 first.0 apart last.3 first.3)
        ∙ ap₂ (λ a b. with_joined a ++ with_joined b) (sym last.2) (sym first.2)

    at : (b : Bool) → with_joined (cond b (without_separators (xs ++ x ∷ y ∷ ys)) (xs ++ x ∷ y ∷ ys))
        ≡ with_joined (cond b (without_separators (xs ++ x ∷ [])) (xs ++ x ∷ []))
        ++ with_joined (cond b (without_separators (y ∷ ys)) (y ∷ ys))
    at true = parted
    at false = with_joined-seam xs x y ys apart
