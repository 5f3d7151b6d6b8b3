-- Groups of neighbours, where one element belongs to no other.
use Rattle.std.specs.Prelude.{slice_range}
use Rattle.std.proofs.lemmas.List.{length-drop, get_or-drop, drop-drop}
use Rattle.std.proofs.Common.{◌≡◌, ℕ, zero, suc, ◌+◌, ◌-◌, ◌<◌, ◌≤◌, Bool, true, false, List, [], ◌∷◌, ◌++◌, length, take, drop, get_or, refl, sym, ap, ap₂, ◌∙◌, ⊎_elim, append_assoc, arith}
use Rattle.std.proofs.lemmas.Bool.{cases_Bool, cond-true, cond-false}
use Rattle.lic_trim.specs.Texts.{groups, join_group}

module _ {A : Type 0} (t : A → A → Bool) where
  -- an element that does not belong to what comes next begins a group
  pub join_alone : (x : A) (gs : List (List A)) → ((y : A) → t x y ≡ false) → join_group t x gs ≡ (x ∷ []) ∷ gs
  join_alone x [] alone = refl
  join_alone x ([] ∷ gs) alone = refl
  join_alone x ((y ∷ g) ∷ gs) alone = cond-false (t x y) _ _ (alone y)

  -- joining looks at the first group alone
  join_append : (x : A) (g : List A) (gs hs : List (List A)) → join_group t x ((g ∷ gs) ++ hs) ≡ join_group t x (g ∷ gs) ++ hs
  join_append x [] gs hs = refl
  join_append x (y ∷ g) gs hs =
      ⊎_elim
      (λ yes. cond-true (t x y) _ _ yes ∙ ap (λ l. l ++ hs) (sym (cond-true (t x y) ((x ∷ y ∷ g) ∷ gs) ((x ∷ []) ∷ (y ∷ g) ∷ gs) yes)))
      (λ not. cond-false (t x y) _ _ not ∙ ap (λ l. l ++ hs) (sym (cond-false (t x y) ((x ∷ y ∷ g) ∷ gs) ((x ∷ []) ∷ (y ∷ g) ∷ gs) not)))
      (cases_Bool (t x y))

  join_some : (x : A) (gs : List (List A)) → (g : List A) × (hs : List (List A)) × (join_group t x gs ≡ g ∷ hs)
  join_some x [] = (x ∷ [], [], refl)
  join_some x ([] ∷ gs) = (x ∷ [], [] ∷ gs, refl)
  join_some x ((y ∷ g) ∷ gs) =
      ⊎_elim
      (λ yes. (x ∷ y ∷ g, gs, cond-true (t x y) _ _ yes))
      (λ not. (x ∷ [], (y ∷ g) ∷ gs, cond-false (t x y) _ _ not))
      (cases_Bool (t x y))

  groups_some : (xs : List A) (x : A) → (g : List A) × (hs : List (List A)) × (groups t (xs ++ x ∷ []) ≡ g ∷ hs)
  groups_some [] x = (x ∷ [], [], refl)
  groups_some (z ∷ xs) x = join_some z (groups t (xs ++ x ∷ []))

  pub groups_cut : (xs : List A) (x : A) (ys : List A) → ((y : A) → t x y ≡ false) → groups t (xs ++ x ∷ ys) ≡ groups t (xs ++ x ∷ []) ++ groups t ys
  groups_cut [] x ys alone = join_alone x (groups t ys) alone
  groups_cut (z ∷ xs) x ys alone =
      let some = groups_some xs x in
      ap (join_group t z) (groups_cut xs x ys alone ∙ ap (λ l. l ++ groups t ys) some.2)
      ∙ join_append z some.0 some.1 (groups t ys)
      ∙ ap (λ l. join_group t z l ++ groups t ys) (sym some.2)

  pub groups_last : (xs : List A) (x : A) → ((y : A) → t y x ≡ false) → groups t (xs ++ x ∷ []) ≡ groups t xs ++ (x ∷ []) ∷ []
  groups_last [] x alone = refl
  groups_last (z ∷ []) x alone = cond-false (t z x) _ _ (alone z)
  groups_last (z ∷ y ∷ xs) x alone =
      let some = join_some y (groups t xs) in
      ap (join_group t z) (groups_last (y ∷ xs) x alone ∙ ap (λ l. l ++ (x ∷ []) ∷ []) some.2)
      ∙ join_append z some.0 some.1 ((x ∷ []) ∷ [])
      ∙ ap (λ l. join_group t z l ++ (x ∷ []) ∷ []) (sym some.2)

  -- an element that belongs to no other is a group, and cuts the list
  pub groups_alone : (xs : List A) (x : A) (ys : List A) → ((y : A) → t x y ≡ false) → ((y : A) → t y x ≡ false)
      → groups t (xs ++ x ∷ ys) ≡ groups t xs ++ (x ∷ []) ∷ groups t ys
  groups_alone xs x ys after before =
      groups_cut xs x ys after ∙ ap (λ l. l ++ groups t ys) (groups_last xs x before) ∙ append_assoc (groups t xs) ((x ∷ []) ∷ []) (groups t ys)

  head_of : (y : A) (gs : List (List A)) → (g : List A) × (hs : List (List A)) × (join_group t y gs ≡ (y ∷ g) ∷ hs)
  head_of y [] = ([], [], refl)
  head_of y ([] ∷ gs) = ([], [] ∷ gs, refl)
  head_of y ((z ∷ g) ∷ gs) =
      ⊎_elim
      (λ yes. (z ∷ g, gs, cond-true (t y z) _ _ yes))
      (λ not. ([], (z ∷ g) ∷ gs, cond-false (t y z) _ _ not))
      (cases_Bool (t y z))

  pub groups_head : (y : A) (xs : List A) → (g : List A) × (hs : List (List A)) × (groups t (y ∷ xs) ≡ (y ∷ g) ∷ hs)
  groups_head y xs = head_of y (groups t xs)

  -- two neighbours that do not belong together cut the list
  pub groups_seam : (xs : List A) (x y : A) (ys : List A) → t x y ≡ false
      → groups t (xs ++ x ∷ y ∷ ys) ≡ groups t (xs ++ x ∷ []) ++ groups t (y ∷ ys)
  groups_seam [] x y ys apart =
      let some = groups_head y ys in
      ap (join_group t x) some.2 ∙ cond-false (t x y) _ _ apart ∙ ap (λ l. (x ∷ []) ∷ l) (sym some.2)
  groups_seam (z ∷ xs) x y ys apart =
      let some = groups_some xs x in
      ap (join_group t z) (groups_seam xs x y ys apart ∙ ap (λ l. l ++ groups t (y ∷ ys)) some.2)
      ∙ join_append z some.0 some.1 (groups t (y ∷ ys))
      ∙ ap (λ l. join_group t z l ++ groups t (y ∷ ys)) (sym some.2)

  end_join : (x z : A) (gs : List (List A)) (g : List A)
      → (hs : List (List A)) × (h : List A) × (join_group t z (gs ++ (g ++ x ∷ []) ∷ []) ≡ hs ++ (h ++ x ∷ []) ∷ [])
  end_join x z [] [] =
      ⊎_elim
      (λ yes. ([], z ∷ [], cond-true (t z x) _ _ yes))
      (λ not. ((z ∷ []) ∷ [], [], cond-false (t z x) _ _ not))
      (cases_Bool (t z x))
  end_join x z [] (y ∷ g) =
      ⊎_elim
      (λ yes. ([], z ∷ y ∷ g, cond-true (t z y) _ _ yes))
      (λ not. ((z ∷ []) ∷ [], y ∷ g, cond-false (t z y) _ _ not))
      (cases_Bool (t z y))
  end_join x z ([] ∷ gs) g = ((z ∷ []) ∷ [] ∷ gs, g, refl)
  end_join x z ((y ∷ h) ∷ gs) g =
      ⊎_elim
      (λ yes. ((z ∷ y ∷ h) ∷ gs, g, cond-true (t z y) _ _ yes))
      (λ not. ((z ∷ []) ∷ (y ∷ h) ∷ gs, g, cond-false (t z y) _ _ not))
      (cases_Bool (t z y))

  -- the last group ends in the last element
  pub groups_end : (xs : List A) (x : A) → (gs : List (List A)) × (g : List A) × (groups t (xs ++ x ∷ []) ≡ gs ++ (g ++ x ∷ []) ∷ [])
  groups_end [] x = ([], [], refl)
  groups_end (z ∷ xs) x =
      let known = groups_end xs x in
      let more = end_join x z known.0 known.1 in
      (more.0, more.1, ap (join_group t z) known.2 ∙ more.2)

  -- the first group: neighbours belong together up to n, and there they do not
  pub first_group : (xs : List A) (n : ℕ) (d : A) → n < length xs
      → ((i : ℕ) → i < n → t (get_or xs i d) (get_or xs (suc i) d) ≡ true)
      → (suc n < length xs → t (get_or xs n d) (get_or xs (suc n) d) ≡ false)
      → groups t xs ≡ take (suc n) xs ∷ groups t (drop (suc n) xs)
  first_group [] n d lt each stop = absurd (omega arith)
  first_group (x ∷ []) zero d lt each stop = refl
  first_group (x ∷ []) (suc n) d lt each stop = absurd (omega arith)
  first_group (x ∷ y ∷ xs) zero d lt each stop =
      let some = groups_head y xs in
      ap (join_group t x) some.2 ∙ cond-false (t x y) _ _ (stop (omega arith)) ∙ ap (λ l. (x ∷ []) ∷ l) (sym some.2)
  first_group (x ∷ y ∷ xs) (suc n) d lt each stop =
      ap (join_group t x) (first_group (y ∷ xs) n d (omega arith) (λ i h. each (suc i) (omega arith)) (λ h. stop (omega arith)))
      ∙ cond-true (t x y) _ _ (each 0 (omega arith))

  -- the first group of the rest of a list
  pub group_at : (xs : List A) (from end : ℕ) (d : A) → from < end → end ≤ length xs
      → ((i : ℕ) → from ≤ i → i + 1 < end → t (get_or xs i d) (get_or xs (i + 1) d) ≡ true)
      → (end < length xs → t (get_or xs (end - 1) d) (get_or xs end d) ≡ false)
      → groups t (drop from xs) ≡ slice_range xs from end ∷ groups t (drop end xs)
  group_at xs from end d some within each stop =
      let n = end - from - 1 in
      let size : suc n ≡ end - from = omega arith in
      let offset : from + suc n ≡ end = omega arith in
      let last : from + n ≡ end - 1 = omega arith in
      let long = length-drop from xs in
      let at = λ (i : ℕ). get_or-drop from xs i d in
      first_group (drop from xs) n d (omega arith)
      (λ i lt. let next : from + suc i ≡ from + i + 1 = omega arith in
      ap₂ t (at i) (at (suc i) ∙ ap (λ k. get_or xs k d) next) ∙ each (from + i) (omega arith) (omega arith))
      (λ lt. ap₂ t (at n ∙ ap (λ k. get_or xs k d) last) (at (suc n) ∙ ap (λ k. get_or xs k d) offset) ∙ stop (omega arith))
      ∙ ap₂ (λ a b. a ∷ groups t b) (ap (λ k. take k (drop from xs)) size) (drop-drop (suc n) from xs ∙ ap (λ k. drop k xs) offset)
