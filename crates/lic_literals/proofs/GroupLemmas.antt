-- Literals in groups by their windows.
use Rattle.std.proofs.Common.{◌≡◌, ℕ, ◌+◌, ◌<◌, ◌≤◌, List, [], ◌∷◌, ◌++◌, Option, None, Some, length, map, take, get_or, set, sym, ap, ◌∙◌, subst, arith}
use Rattle.std.specs.List.{Contains, slice_get}
use Rattle.std.proofs.lemmas.Bool.{cases_lt}
use Rattle.std.proofs.lemmas.List.{get_or-map, get_or-set_same, get_or_past, length-map, map-append, take_more}
use Rattle.std.proofs.lemmas.List.Elements.{Contains-append_left, Contains-append_right, Contains-push, Contains-push_cases}
use Rattle.std.proofs.lemmas.Option.{none-some, same_Some}
use Rattle.std.proofs.Math.Logic.{⊎_elim}
use Rattle.lic_literals.specs.declared.tables.Key.{Key}
use Rattle.lic_literals.proofs.Lists.{Contains-nil, Contains-set}

-- the first n literals are in their groups
pub record AreGrouped (keys : List (Option Key)) (short : List ℕ) (sharing : List (List ℕ)) (n : ℕ) : Type 0 where
  pub no_window : (k : ℕ) → k < n → slice_get keys k ≡ Some None → Contains short k
  pub window : (k : ℕ) (key : Key) → k < n → slice_get keys k ≡ Some (Some key) → Contains (get_or sharing key.window []) k

module _ (keys : List (Option Key)) (short : List ℕ) (sharing : List (List ℕ)) (n : ℕ) (before : AreGrouped keys short sharing n) where
  -- the next one has a window
  pub grouped_window : (own : Key) → slice_get keys n ≡ Some (Some own) → own.window < length sharing →
      AreGrouped keys short (set sharing own.window (get_or sharing own.window [] ++ n ∷ [])) (n + 1)
  grouped_window own here within = record {
    no_window = λ k less there.
        ⊎_elim
        (λ (earlier : k < n). before.no_window k earlier there)
        (λ (later : n ≤ k).
        let same : k ≡ n = omega arith in
        absurd (none-some own (same_Some None (Some own) (sym there ∙ ap (slice_get keys) same ∙ here))))
        (cases_lt k n);
    window = λ k key less there.
        ⊎_elim
        (λ (earlier : k < n).
        Contains-set sharing own.window (get_or sharing own.window [] ++ n ∷ []) within (λ p h. Contains-append_left (get_or sharing own.window []) (n ∷ []) p h)
        key.window k (before.window k key earlier there))
        (λ (later : n ≤ k).
        let same : n ≡ k = omega arith in
        let is : own ≡ key = same_Some own key (same_Some (Some own) (Some key) (sym here ∙ ap (slice_get keys) same ∙ there)) in
        subst (λ q. Contains (get_or (set sharing own.window (get_or sharing own.window [] ++ n ∷ [])) q.window []) k) is
        (subst (λ xs. Contains xs k) (sym (get_or-set_same sharing own.window (get_or sharing own.window [] ++ n ∷ []) [] within))
        (subst (Contains (get_or sharing own.window [] ++ n ∷ [])) same (Contains-push (get_or sharing own.window []) n))))
        (cases_lt k n);
  }

  -- the next one has none
  pub grouped_short : slice_get keys n ≡ Some None → AreGrouped keys (short ++ n ∷ []) sharing (n + 1)
  grouped_short here = record {
    no_window = λ k less there.
        ⊎_elim
        (λ (earlier : k < n). Contains-append_left short (n ∷ []) k (before.no_window k earlier there))
        (λ (later : n ≤ k). let same : n ≡ k = omega arith in subst (Contains (short ++ n ∷ [])) same (Contains-push short n))
        (cases_lt k n);
    window = λ k key less there.
        ⊎_elim
        (λ (earlier : k < n). before.window k key earlier there)
        (λ (later : n ≤ k).
        let same : n ≡ k = omega arith in
        absurd (none-some key (same_Some None (Some key) (sym here ∙ ap (slice_get keys) same ∙ there))))
        (cases_lt k n);
  }

-- a list is read at an offset
pub list_read : {A : Type 0} (f : A → List ℕ) (xs : List A) (i : ℕ) (x : A) → i < length xs → x ≡ get_or xs i x → get_or (map f xs) i [] ≡ f x
list_read f xs i x within is = get_or-map f xs i x [] within ∙ ap f (sym is)

-- past the end there is none
pub list_past : {A : Type 0} (f : A → List ℕ) (xs : List A) (i : ℕ) → length xs ≤ i → get_or (map f xs) i [] ≡ []
list_past f xs i past = get_or_past (map f xs) i [] (omega (arith, length-map xs f))

-- the elements so far, with one more
pub map_more : {A B : Type 0} (f : A → B) (xs : List A) (i : ℕ) (x : A) → i < length xs → x ≡ get_or xs i x → map f (take (i + 1) xs) ≡ map f (take i xs) ++ f x ∷ []
map_more f xs i x within is =
    ap (map f) (take_more xs i x within ∙ ap (λ y. take i xs ++ y ∷ []) (sym is)) ∙ map-append f (take i xs) (x ∷ [])

-- the literals of the windows so far are listed, and now those of one more
module _ (sharing : ℕ → List ℕ) (windows : List ℕ) (window : ℕ) (numbers : List ℕ)
    (before : (v k : ℕ) → Contains windows v → Contains (sharing v) k → Contains numbers k) where
  pub listed_more : (more : List ℕ) → sharing window ≡ more →
      (v k : ℕ) → Contains (windows ++ window ∷ []) v → Contains (sharing v) k → Contains (numbers ++ more) k
  listed_more more is v k inside shares =
      ⊎_elim
      (λ (earlier : Contains windows v). Contains-append_left numbers more k (before v k earlier shares))
      (λ (now : window ≡ v).
      Contains-append_right numbers more k (subst (λ xs. Contains xs k) is (subst (λ u. Contains (sharing u) k) (sym now) shares)))
      (Contains-push_cases windows window v inside)

  pub listed_same : sharing window ≡ [] → (v k : ℕ) → Contains (windows ++ window ∷ []) v → Contains (sharing v) k → Contains numbers k
  listed_same none v k inside shares =
      ⊎_elim
      (λ (earlier : Contains windows v). before v k earlier shares)
      (λ (now : window ≡ v). absurd (Contains-nil k (subst (λ xs. Contains xs k) none (subst (λ u. Contains (sharing u) k) (sym now) shares))))
      (Contains-push_cases windows window v inside)
