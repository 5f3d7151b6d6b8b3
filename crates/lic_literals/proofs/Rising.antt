-- Lists of numbers in strictly rising order.
use Rattle.std.proofs.Common.{◌≡◌, ℕ, ◌+◌, ◌-◌, ◌<◌, ◌≤◌, List, [], ◌∷◌, ◌++◌, length, get_or, take, insert, sym, ap, ◌∙◌, arith}
use Rattle.std.specs.List.{Contains}
use Rattle.std.specs.List.Sorted.{IsStrictlyIncreasing}
use Rattle.std.proofs.lemmas.Bool.{cases_lt}
use Rattle.std.proofs.lemmas.List.{get_or-take, get_or_append_left, get_or_default, length-take-le, length_push}
use Rattle.std.proofs.lemmas.List.Edits.{get_or-insert_above, get_or-insert_at, get_or-insert_below, length-insert}
use Rattle.std.proofs.lemmas.List.Elements.{Contains-get_or}
use Rattle.std.proofs.lemmas.Map.Keys.{below_from_sorted, sorted_from_strictly_increasing}
use Rattle.std.proofs.Math.Seq.{get_or-append_seam}
use Rattle.std.proofs.Math.Logic.{⊎_elim}

-- a greater number after them
pub IsStrictlyIncreasing-push : (xs : List ℕ) (y : ℕ) → IsStrictlyIncreasing xs → ((x : ℕ) → Contains xs x → x < y) → IsStrictlyIncreasing (xs ++ y ∷ [])
IsStrictlyIncreasing-push xs y rising less = λ i h.
    let size : length (xs ++ y ∷ []) ≡ length xs + 1 = length_push xs y in
    let first : get_or (xs ++ y ∷ []) i 0 ≡ get_or xs i 0 = get_or_append_left xs (y ∷ []) 0 i (omega arith) in
    ⊎_elim
    (λ (inner : i + 1 < length xs).
    let second : get_or (xs ++ y ∷ []) (i + 1) 0 ≡ get_or xs (i + 1) 0 = get_or_append_left xs (y ∷ []) 0 (i + 1) inner in
    omega (arith, first, second, rising i inner))
    (λ (outer : length xs ≤ i + 1).
    let here : i + 1 ≡ length xs = omega arith in
    let second : get_or (xs ++ y ∷ []) (i + 1) 0 ≡ y = ap (λ j. get_or (xs ++ y ∷ []) j 0) here ∙ get_or-append_seam xs y [] 0 in
    omega (arith, first, second, less (get_or xs i 0) (Contains-get_or xs i 0 (omega arith))))
    (cases_lt (i + 1) (length xs))

-- each is at most those after it
pub le_later : (xs : List ℕ) → IsStrictlyIncreasing xs → (i j : ℕ) → i ≤ j → j < length xs → get_or xs i 0 ≤ get_or xs j 0
le_later xs rising i j order within =
    ⊎_elim
    (λ (before : i < j).
    let less : get_or xs i 0 < get_or xs j 0 = below_from_sorted xs i j 0 (sorted_from_strictly_increasing xs rising) before within in
    omega (arith, less))
    (λ (not_before : j ≤ i). let same : i ≡ j = omega arith in omega (arith, ap (λ k. get_or xs k 0) same))
    (cases_lt i j)

-- a number between those that are less and those that are greater
module _ (xs : List ℕ) (at x : ℕ) (fits : at ≤ length xs) where
  pub Contains-insert : Contains (insert xs at x) x
  Contains-insert = (at, omega (arith, length-insert xs at x fits), get_or-insert_at xs at x x fits)

  pub Contains-insert_kept : (y : ℕ) → Contains xs y → Contains (insert xs at x) y
  Contains-insert_kept y (i, within, is) =
      ⊎_elim
      (λ (below : i < at). (i, omega (arith, length-insert xs at x fits), get_or-insert_below xs at x y i below fits ∙ is))
      (λ (above : at ≤ i). (i + 1, omega (arith, length-insert xs at x fits), get_or-insert_above xs at x y i above fits ∙ is))
      (cases_lt i at)

  pub IsStrictlyIncreasing-insert : IsStrictlyIncreasing xs → ((k : ℕ) → k < at → get_or xs k 0 < x) →
      ((k : ℕ) → at ≤ k → k < length xs → x < get_or xs k 0) → IsStrictlyIncreasing (insert xs at x)
  IsStrictlyIncreasing-insert rising less greater = λ k h.
      let size : length (insert xs at x) ≡ length xs + 1 = length-insert xs at x fits in
      ⊎_elim
      (λ (early : k + 1 < at).
      let here : get_or (insert xs at x) k 0 ≡ get_or xs k 0 = get_or-insert_below xs at x 0 k (omega arith) fits in
      let next : get_or (insert xs at x) (k + 1) 0 ≡ get_or xs (k + 1) 0 = get_or-insert_below xs at x 0 (k + 1) early fits in
      omega (arith, here, next, rising k (omega arith)))
      (λ (not_early : at ≤ k + 1).
      ⊎_elim
      (λ (before : k < at).
      let last : k + 1 ≡ at = omega arith in
      let here : get_or (insert xs at x) k 0 ≡ get_or xs k 0 = get_or-insert_below xs at x 0 k before fits in
      let next : get_or (insert xs at x) (k + 1) 0 ≡ x = ap (λ i. get_or (insert xs at x) i 0) last ∙ get_or-insert_at xs at x 0 fits in
      omega (arith, here, next, less k before))
      (λ (not_before : at ≤ k).
      let next : get_or (insert xs at x) (k + 1) 0 ≡ get_or xs k 0 = get_or-insert_above xs at x 0 k not_before fits in
      ⊎_elim
      (λ (after : at < k).
      let one : k - 1 + 1 ≡ k = omega arith in
      let here : get_or (insert xs at x) k 0 ≡ get_or xs (k - 1) 0 =
      ap (λ i. get_or (insert xs at x) i 0) (sym one) ∙ get_or-insert_above xs at x 0 (k - 1) (omega arith) fits in
      let step : get_or xs (k - 1) 0 < get_or xs (k - 1 + 1) 0 = rising (k - 1) (omega arith) in
      let same : get_or xs (k - 1 + 1) 0 ≡ get_or xs k 0 = ap (λ i. get_or xs i 0) one in
      omega (arith, here, next, step, same))
      (λ (not_after : k ≤ at).
      let now : k ≡ at = omega arith in
      let here : get_or (insert xs at x) k 0 ≡ x = ap (λ i. get_or (insert xs at x) i 0) now ∙ get_or-insert_at xs at x 0 fits in
      omega (arith, here, next, greater k not_before (omega arith)))
      (cases_lt at k))
      (cases_lt k at))
      (cases_lt (k + 1) at)

-- what comes before an offset is less than what is there
pub less_before : (xs : List ℕ) → IsStrictlyIncreasing xs → (i x : ℕ) → i < length xs → Contains (take i xs) x → x < get_or xs i 0
less_before xs rising i x within (j, inside, is) =
    let size : length (take i xs) ≡ i = length-take-le i xs (omega arith) in
    let there : get_or xs j 0 ≡ x = get_or_default xs j 0 x (omega arith) ∙ sym (get_or-take i xs j x (omega arith)) ∙ is in
    let less : get_or xs j 0 < get_or xs i 0 = below_from_sorted xs j i 0 (sorted_from_strictly_increasing xs rising) (omega arith) within in
    omega arith
