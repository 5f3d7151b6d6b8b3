-- Lists of numbers in rising order.
use Rattle.std.proofs.Common.{◌≡◌, ℕ, zero, suc, ◌+◌, ◌-◌, ◌<◌, ◌≤◌, List, [], ◌∷◌, ◌++◌, length, get_or, take, sym, ap, ◌∙◌, subst, arith}
use Rattle.std.specs.List.{Contains}
use Rattle.std.proofs.lemmas.Bool.{cases_lt}
use Rattle.std.proofs.lemmas.List.{get_or-take, get_or_append_left, get_or_default, length-take, length_push}
use Rattle.std.proofs.lemmas.List.Elements.{Contains-get_or}
use Rattle.std.proofs.Math.Seq.{get_or-append_seam}
use Rattle.std.proofs.Math.Logic.{⊎_elim}
use Rattle.lic_set.specs.Rising.{IsRising}

module _ (xs : List ℕ) (n : ℕ) (r : IsRising xs n) where
  -- a number is not below its index
  pub index-rising : (i : ℕ) → i < length xs → i ≤ get_or xs i 0
  index-rising zero h = omega arith
  index-rising (suc i) h =
      let before = index-rising i (omega arith) in
      let step : get_or xs i 0 < get_or xs (i + 1) 0 = r.order i (omega arith) in
      let next : i + 1 ≡ suc i = omega arith in
      subst (λ k. suc i ≤ get_or xs k 0) next (omega (arith, before, step))

  -- there are not more of them than numbers below n
  pub length-rising : length xs ≤ n
  length-rising =
      ⊎_elim
      (λ (some : 0 < length xs).
      let last : length xs - 1 < length xs = omega arith in
      omega (arith, index-rising (length xs - 1) last, r.below (length xs - 1) last))
      (λ (none : length xs ≤ 0). omega arith)
      (cases_lt 0 (length xs))

  -- the numbers between two places
  between : (i d : ℕ) → i + d + 1 < length xs → get_or xs i 0 < get_or xs (i + d + 1) 0
  between i zero h =
      let here : i + 1 ≡ i + zero + 1 = omega arith in
      subst (λ k. get_or xs i 0 < get_or xs k 0) here (r.order i (omega arith))
  between i (suc d) h =
      let before : get_or xs i 0 < get_or xs (i + d + 1) 0 = between i d (omega arith) in
      let step : get_or xs (i + d + 1) 0 < get_or xs (i + d + 1 + 1) 0 = r.order (i + d + 1) (omega arith) in
      let here : i + d + 1 + 1 ≡ i + suc d + 1 = omega arith in
      subst (λ k. get_or xs i 0 < get_or xs k 0) here (omega (arith, before, step))

  pub rises : (i j : ℕ) → i < j → j < length xs → get_or xs i 0 < get_or xs j 0
  rises i j less h =
      let here : i + (j - i - 1) + 1 ≡ j = omega arith in
      subst (λ k. get_or xs i 0 < get_or xs k 0) here (between i (j - i - 1) (omega arith))

  -- what comes before a place is less than what is there
  pub less_before : (i x : ℕ) → i < length xs → Contains (take i xs) x → x < get_or xs i 0
  less_before i x h (j, within, is) =
      let size : length (take i xs) ≤ i = omega (arith, length-take i xs) in
      let less : j < i = omega arith in
      let same : get_or xs j x ≡ x = sym (get_or-take i xs j x less) ∙ is in
      let there : get_or xs j 0 ≡ x = get_or_default xs j 0 x (omega arith) ∙ same in
      omega (arith, rises j i less h, there)

  -- what is at a place is at none before
  pub fresh_before : (i : ℕ) → i < length xs → ¬ (Contains (take i xs) (get_or xs i 0))
  fresh_before i h inside = let less = less_before i (get_or xs i 0) h inside in omega (arith, less)

  pub IsRising-take : (m : ℕ) → IsRising (take m xs) n
  IsRising-take m = record {
    order = λ i h.
        let size : length (take m xs) ≤ m = omega (arith, length-take m xs) in
        let size' : length (take m xs) ≤ length xs = omega (arith, length-take m xs) in
        rw (get_or-take m xs i 0 (omega arith), get_or-take m xs (i + 1) 0 (omega arith)) (r.order i (omega arith));
    below = λ i h.
        let size : length (take m xs) ≤ m = omega (arith, length-take m xs) in
        let size' : length (take m xs) ≤ length xs = omega (arith, length-take m xs) in
        rw (get_or-take m xs i 0 (omega arith)) (r.below i (omega arith));
  }

pub IsRising-nil : (n : ℕ) → IsRising [] n
IsRising-nil n = record { order = λ i h. absurd (omega arith); below = λ i h. absurd (omega arith) }

-- a greater number after them
pub IsRising-push : (xs : List ℕ) (m k n : ℕ) → IsRising xs m → m ≤ n → ((x : ℕ) → Contains xs x → x < k) → k < n → IsRising (xs ++ k ∷ []) n
IsRising-push xs m k n r order less within = record {
  order = λ i h.
      let size : length (xs ++ k ∷ []) ≡ length xs + 1 = length_push xs k in
      let first : get_or (xs ++ k ∷ []) i 0 ≡ get_or xs i 0 = get_or_append_left xs (k ∷ []) 0 i (omega arith) in
      ⊎_elim
      (λ (inner : i + 1 < length xs).
      let second : get_or (xs ++ k ∷ []) (i + 1) 0 ≡ get_or xs (i + 1) 0 = get_or_append_left xs (k ∷ []) 0 (i + 1) inner in
      omega (arith, first, second, r.order i inner))
      (λ (outer : length xs ≤ i + 1).
      let here : i + 1 ≡ length xs = omega arith in
      let second : get_or (xs ++ k ∷ []) (i + 1) 0 ≡ k = ap (λ j. get_or (xs ++ k ∷ []) j 0) here ∙ get_or-append_seam xs k [] 0 in
      omega (arith, first, second, less (get_or xs i 0) (Contains-get_or xs i 0 (omega arith))))
      (cases_lt (i + 1) (length xs));
  below = λ i h.
      let size : length (xs ++ k ∷ []) ≡ length xs + 1 = length_push xs k in
      ⊎_elim
      (λ (inner : i < length xs). omega (arith, get_or_append_left xs (k ∷ []) 0 i inner, r.below i inner))
      (λ (outer : length xs ≤ i).
      let here : i ≡ length xs = omega arith in
      omega (arith, ap (λ j. get_or (xs ++ k ∷ []) j 0) here ∙ get_or-append_seam xs k [] 0))
      (cases_lt i (length xs));
}
