-- Ends by the offsets of windows.
use Rattle.std.proofs.Common.{◌≡◌, ◌⊎◌, ℕ, zero, suc, ◌+◌, ◌<◌, ◌≤◌, Bool, true, false, cond, None, Some, List, [], ◌∷◌, ◌++◌, inl, inr, map, filter, nat_le, length, take, get_or, All, refl, sym, ap, ◌∙◌, subst, arith, append-nil}
use Rattle.std.specs.Prelude.{IfSome}
use Rattle.std.specs.List.{Contains}
use Rattle.std.specs.List.Sorted.{IsStrictlyIncreasing}
use Rattle.std.proofs.lemmas.Bool.{cond-false, cond-true, false≢true, le-leb, leb-true}
use Rattle.std.proofs.lemmas.List.{get_or-map, length-map, map-append, take_more}
use Rattle.std.proofs.lemmas.List.Elements.{All-weaker, filter-append, filter_passes}
use Rattle.std.proofs.lemmas.List.Kept.{IsStrictlyIncreasing-filter}
use Rattle.std.proofs.Math.Logic.{⊎_elim}
use Rattle.lic_literals.specs.Kept.{ends_of, listed, shifted}
use Rattle.lic_literals.specs.declared.kept.Ends.{Ends}

-- an element that passes is kept
module _ (p : ℕ → Bool) where
  Contains-filter_more : (x : ℕ) (xs : List ℕ) (y : ℕ) (b : Bool) → p x ≡ b → (x ≡ y) ⊎ Contains (filter p xs) y → p y ≡ true →
      Contains (cond b (x ∷ filter p xs) (filter p xs)) y
  Contains-filter_more x xs y true passes h known =
      ⊎_elim
      (λ (e : x ≡ y). subst (Contains (x ∷ filter p xs)) e (0, omega arith, refl))
      (λ (later : Contains (filter p xs) y). let (k, within, is) = later in (suc k, omega arith, is))
      h
  Contains-filter_more x xs y false fails h known =
      ⊎_elim (λ (e : x ≡ y). absurd (false≢true (sym fails ∙ ap p e ∙ known))) (λ (later : Contains (filter p xs) y). later) h

  pub Contains-filter : (xs : List ℕ) (y : ℕ) → Contains xs y → p y ≡ true → Contains (filter p xs) y
  Contains-filter [] y h known = h
  Contains-filter (x ∷ xs) y (zero, within, is) known = Contains-filter_more x xs y (p x) refl (inl is) known
  Contains-filter (x ∷ xs) y (suc k, within, is) known =
      Contains-filter_more x xs y (p x) refl (inr (Contains-filter xs y (k, omega arith, is) known)) known

module _ (by limit : ℕ) where
  -- one offset more
  module _ (xs : List ℕ) (i x : ℕ) (within : i < length xs) (is : get_or xs i 0 ≡ x) where
    shifted_more : shifted by limit (take (i + 1) xs) ≡ shifted by limit (take i xs) ++ cond (nat_le (x + by) limit) ((x + by) ∷ []) []
    shifted_more =
        ap (shifted by limit) (take_more xs i 0 within ∙ ap (λ y. take i xs ++ y ∷ []) is)
        ∙ ap (filter (λ e. nat_le e limit)) (map-append (λ p. p + by) (take i xs) (x ∷ []))
        ∙ filter-append (λ e. nat_le e limit) (map (λ p. p + by) (take i xs)) ((x + by) ∷ [])

    pub shifted_in : nat_le (x + by) limit ≡ true → shifted by limit (take (i + 1) xs) ≡ shifted by limit (take i xs) ++ (x + by) ∷ []
    shifted_in fits =
        shifted_more ∙ ap (λ ys. shifted by limit (take i xs) ++ ys) (cond-true (nat_le (x + by) limit) ((x + by) ∷ []) [] fits)

    pub shifted_out : nat_le (x + by) limit ≡ false → shifted by limit (take (i + 1) xs) ≡ shifted by limit (take i xs)
    shifted_out past =
        shifted_more ∙ ap (λ ys. shifted by limit (take i xs) ++ ys) (cond-false (nat_le (x + by) limit) ((x + by) ∷ []) [] past)
        ∙ append-nil (shifted by limit (take i xs))

  pub shifted_rises : (xs : List ℕ) → IsStrictlyIncreasing xs → IsStrictlyIncreasing (shifted by limit xs)
  shifted_rises xs rising =
      IsStrictlyIncreasing-filter (λ e. nat_le e limit) (map (λ p. p + by) xs)
      (λ k h.
      let size : length (map (λ p. p + by) xs) ≡ length xs = length-map xs (λ p. p + by) in
      let here : get_or (map (λ p. p + by) xs) k 0 ≡ get_or xs k 0 + by = get_or-map (λ p. p + by) xs k 0 0 (omega arith) in
      let next : get_or (map (λ p. p + by) xs) (k + 1) 0 ≡ get_or xs (k + 1) 0 + by = get_or-map (λ p. p + by) xs (k + 1) 0 0 (omega arith) in
      omega (arith, here, next, rising k (omega arith)))

  pub shifted_within : (xs : List ℕ) → All (λ e. e ≤ limit) (shifted by limit xs)
  shifted_within xs =
      All-weaker (λ e. nat_le e limit ≡ true) (λ e. e ≤ limit) (λ e. leb-true e limit) (shifted by limit xs)
      (filter_passes (λ e. nat_le e limit) (map (λ p. p + by) xs))

  -- an offset is shifted, if it stays within the limit
  pub Contains-shifted : (xs : List ℕ) (p e : ℕ) → Contains xs p → p + by ≡ e → e ≤ limit → Contains (shifted by limit xs) e
  Contains-shifted xs p e inside at room_is =
      let (i, within, is) = inside in
      let size : length (map (λ q. q + by) xs) ≡ length xs = length-map xs (λ q. q + by) in
      let there : get_or (map (λ q. q + by) xs) i e ≡ e =
      get_or-map (λ q. q + by) xs i p e within ∙ ap (λ q. q + by) is ∙ at in
      Contains-filter (λ q. nat_le q limit) (map (λ q. q + by) xs) e (i, omega arith, there) (le-leb e limit room_is)

module _ (P : List ℕ → Type 0) (number : ℕ) where
  -- nothing is asked of ends that are not known
  pub ends_unknown : IfSome (ends_of (record { number = number; ends = None })) P
  unfolding ends_of
  ends_unknown = tt

  pub ends_known : (own : Ends) → P (listed own) → IfSome (ends_of (record { number = number; ends = Some own })) P
  unfolding ends_of
  ends_known own h = h
