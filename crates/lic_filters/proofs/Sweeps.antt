-- What a sweep keeps of a list in which each element that beats another comes before it: those that none beats.
use Rattle.std.proofs.Common.{◌≡◌, ◌↔◌, suc, Bool, true, false, cond, not, ◌⊎◌, List, [], ◌∷◌, refl, sym, ◌∙◌, subst, inl, inr, ⊎_elim, arith}
use Rattle.std.proofs.lemmas.Bool.{false≢true}
use Rattle.std.specs.List.{Contains, AllPairs, dedup, dedup_from, filter, list_any}
use Rattle.std.specs.List.Sorted.{IsPermutation}
use Rattle.std.proofs.lemmas.List.Sorted.{IsPermutation-sym, Contains-permutation}
use Rattle.lic_filters.proofs.Members.{Contains-cons_cases, Contains-head, Contains-here, Contains-tail, Contains-nil, Contains-filter, not-list_any}

module _ {X : Type 0} (Ahead : X → X → Type 0) (beats drops : X → X → Bool) where
  -- each is ahead of all that come after it
  abbrev pub Ranked : List X → Type 0
  Ranked [] = Unit {0}
  Ranked (x ∷ xs) = ((y : X) → Contains xs y → Ahead x y) × Ranked xs

  -- a member that none beats
  abbrev pub Unbeaten : List X → X → Type 0
  Unbeaten xs t = Contains xs t × ((s : X) → Contains xs s → beats s t ≡ true → ⊥)

  -- a test against the last one kept drops those that some member beats, and repeats
  pub record Sweeps : Type 0 where
    pub itself : (x : X) → beats x x ≡ true → ⊥
    pub through : (x y z : X) → beats x y ≡ true → beats y z ≡ true → beats x z ≡ true
    pub past : (x y : X) → Ahead x y → beats y x ≡ true → ⊥
    pub dropped : (x y : X) → Ahead x y → drops y x ≡ true → (x ≡ y) ⊎ (beats x y ≡ true)
    pub kept : (x y z : X) → Ahead x y → Ahead y z → drops y x ≡ false → beats x z ≡ true → beats y z ≡ true
    pub next : (x y : X) → Ahead x y → drops y x ≡ false → beats x y ≡ true → ⊥

  module _ (sweep : Sweeps) where
    -- what the first one beats, one after it beats as well, if that is not dropped
    Unbeaten-kept : (k x : X) (xs : List X) (t : X) → Ranked (k ∷ x ∷ xs) → drops x k ≡ false → Unbeaten (x ∷ xs) t → Unbeaten (k ∷ x ∷ xs) t
    Unbeaten-kept k x xs t ranked stays free = (
      Contains-tail k (x ∷ xs) t free.0,
      λ s h beaten. ⊎_elim
          (λ (e : k ≡ s).
          let first : beats k t ≡ true = subst (λ y. beats y t ≡ true) (sym e) beaten in
          ⊎_elim
          (λ (f : x ≡ t). sweep.next k x (ranked.0 x (Contains-head x xs)) stays (subst (λ y. beats k y ≡ true) (sym f) first))
          (λ later. free.1 x (Contains-head x xs) (sweep.kept k x t (ranked.0 x (Contains-head x xs)) (ranked.1.0 t later) stays first))
          (Contains-cons_cases x xs t free.0))
          (λ later. free.1 s later beaten) (Contains-cons_cases k (x ∷ xs) s h),
    )

    -- one that is dropped beats nothing that the first one does not
    Unbeaten-dropped : (k x : X) (xs : List X) (t : X) → Ahead k x → drops x k ≡ true → Unbeaten (k ∷ xs) t → Unbeaten (k ∷ x ∷ xs) t
    Unbeaten-dropped k x xs t ahead goes free = (
      ⊎_elim (λ e. Contains-here k (x ∷ xs) t e) (λ later. Contains-tail k (x ∷ xs) t (Contains-tail x xs t later)) (Contains-cons_cases k xs t free.0),
      λ s h beaten. ⊎_elim
          (λ (e : k ≡ s). free.1 s (Contains-here k xs s e) beaten)
          (λ past. ⊎_elim
          (λ (e : x ≡ s).
          let second : beats x t ≡ true = subst (λ y. beats y t ≡ true) (sym e) beaten in
          free.1 k (Contains-head k xs)
          (⊎_elim (λ (f : k ≡ x). subst (λ y. beats y t ≡ true) (sym f) second) (λ first. sweep.through k x t first second) (sweep.dropped k x ahead goes)))
          (λ later. free.1 s (Contains-tail k xs s later) beaten) (Contains-cons_cases x xs s past)) (Contains-cons_cases k (x ∷ xs) s h),
    )

    -- the first one is kept, since none after it beats it
    Unbeaten-first : (k : X) (xs : List X) → Ranked (k ∷ xs) → Unbeaten (k ∷ xs) k
    Unbeaten-first k xs ranked = (
      Contains-head k xs,
      λ s h beaten. ⊎_elim (λ (e : k ≡ s). sweep.itself k (subst (λ y. beats y k ≡ true) (sym e) beaten)) (λ later. sweep.past k s (ranked.0 s later) beaten)
          (Contains-cons_cases k xs s h),
    )

    Ranked-dropped : (k x : X) (xs : List X) → Ranked (k ∷ x ∷ xs) → Ranked (k ∷ xs)
    Ranked-dropped k x xs ranked = (λ y h. ranked.0 y (Contains-tail x xs y h), ranked.1.1)

    -- what the sweep keeps, none beats
    pub Unbeaten-from_dedup : (k : X) (xs : List X) → Ranked (k ∷ xs) → (t : X) → Contains (dedup_from drops k xs) t → Unbeaten (k ∷ xs) t
    Unbeaten-from_dedup k [] ranked t h =
        ⊎_elim (λ e. subst (Unbeaten (k ∷ [])) e (Unbeaten-first k [] ranked)) (λ later. absurd (Contains-nil t later)) (Contains-cons_cases k [] t h)
    Unbeaten-from_dedup k (x ∷ xs) ranked t h =
        (elim (drops x k) as (λ b. drops x k ≡ b → Contains (cond b (dedup_from drops k xs) (k ∷ dedup_from drops x xs)) t → Unbeaten (k ∷ x ∷ xs) t) [
          | true ↦ λ goes found.
              Unbeaten-dropped k x xs t (ranked.0 x (Contains-head x xs)) goes (Unbeaten-from_dedup k xs (Ranked-dropped k x xs ranked) t found)
          | false ↦ λ stays found.
              ⊎_elim (λ e. subst (Unbeaten (k ∷ x ∷ xs)) e (Unbeaten-first k (x ∷ xs) ranked))
              (λ later. Unbeaten-kept k x xs t ranked stays (Unbeaten-from_dedup x xs ranked.1 t later)) (Contains-cons_cases k (dedup_from drops x xs) t found)
        ]) refl h

    -- one that none beats is not the one that is dropped
    Unbeaten-left : (k x : X) (xs : List X) (t : X) → Ahead k x → drops x k ≡ true → Unbeaten (k ∷ x ∷ xs) t → Unbeaten (k ∷ xs) t
    Unbeaten-left k x xs t ahead goes free = (
      ⊎_elim (λ e. Contains-here k xs t e)
          (λ past. ⊎_elim
          (λ (e : x ≡ t).
          ⊎_elim (λ (f : k ≡ x). Contains-here k xs t (f ∙ e))
          (λ first. absurd (free.1 k (Contains-head k (x ∷ xs)) (subst (λ y. beats k y ≡ true) e first))) (sweep.dropped k x ahead goes))
          (λ later. Contains-tail k xs t later) (Contains-cons_cases x xs t past)) (Contains-cons_cases k (x ∷ xs) t free.0),
      λ s h. ⊎_elim (λ e. free.1 s (Contains-here k (x ∷ xs) s e)) (λ later. free.1 s (Contains-tail k (x ∷ xs) s (Contains-tail x xs s later)))
          (Contains-cons_cases k xs s h),
    )

    -- none beats what the sweep leaves out
    pub Contains-dedup_unbeaten : (k : X) (xs : List X) → Ranked (k ∷ xs) → (t : X) → Unbeaten (k ∷ xs) t → Contains (dedup_from drops k xs) t
    Contains-dedup_unbeaten k [] ranked t free = free.0
    Contains-dedup_unbeaten k (x ∷ xs) ranked t free =
        (elim (drops x k) as (λ b. drops x k ≡ b → Contains (cond b (dedup_from drops k xs) (k ∷ dedup_from drops x xs)) t) [
          | true ↦ λ goes. Contains-dedup_unbeaten k xs (Ranked-dropped k x xs ranked) t (Unbeaten-left k x xs t (ranked.0 x (Contains-head x xs)) goes free)
          | false ↦ λ stays.
              ⊎_elim (λ e. Contains-here k (dedup_from drops x xs) t e)
              (λ later.
              Contains-tail k (dedup_from drops x xs) t
              (Contains-dedup_unbeaten x xs ranked.1 t (later, λ s among. free.1 s (Contains-tail k (x ∷ xs) s among))))
              (Contains-cons_cases k (x ∷ xs) t free.0)
        ]) refl

    -- The sweep keeps just those that none beats.
    pub Unbeaten-dedup : (xs : List X) → Ranked xs → (t : X) → Contains (dedup drops xs) t ↔ Unbeaten xs t
    Unbeaten-dedup [] ranked t = (λ h. absurd (Contains-nil t h), λ free. free.0)
    Unbeaten-dedup (x ∷ xs) ranked t = (Unbeaten-from_dedup x xs ranked t, Contains-dedup_unbeaten x xs ranked t)

    -- A sweep of a sorted list keeps the members that no member of the list beats.
    pub Contains-swept : (list sorted : List X) → IsPermutation list sorted → Ranked sorted → (t : X) →
        Contains (dedup drops sorted) t ↔ Contains (filter (λ u. not (list_any (λ s. beats s u) list)) list) t
    Contains-swept list sorted moved ranked t =
        let none = not-list_any (λ s. beats s t) list in
        let kept = Unbeaten-dedup sorted ranked t in
        let passed = Contains-filter (λ u. not (list_any (λ s. beats s u) list)) list t in
        let back = IsPermutation-sym list sorted moved in (
          λ h. passed.1 (
            Contains-permutation sorted list t back (kept.0 h).0,
            none.1 (λ s among beaten. (kept.0 h).1 s (Contains-permutation list sorted s moved among) beaten),
          ),
          λ h. kept.1 (
            Contains-permutation list sorted t moved (passed.0 h).0,
            λ s among beaten. none.0 (passed.0 h).1 s (Contains-permutation sorted list s back among) beaten,
          ),
        )

  -- from an order of the indices
  pub Ranked-from_pairs : (xs : List X) → AllPairs Ahead xs → Ranked xs
  Ranked-from_pairs [] pairs = tt
  Ranked-from_pairs (x ∷ xs) pairs = (
    λ y (k, low, is). subst (Ahead x) is (pairs 0 (suc k) y (omega arith) (omega arith)),
    Ranked-from_pairs xs (λ i j d before low. pairs (suc i) (suc j) d (omega arith) (omega arith)),
  )

-- Of what beats an element, itself among it, one is beaten by no member of the list.
module _ {X : Type 0} (beats : X → X → Bool) (itself : (x : X) → beats x x ≡ true → ⊥)
    (through : (x y z : X) → beats x y ≡ true → beats y z ≡ true → beats x z ≡ true) where
  -- it is t or a member that beats t
  abbrev pub IsReached : List X → X → X → Type 0
  IsReached xs t s = (s ≡ t) ⊎ (Contains xs s × (beats s t ≡ true))

  IsReached-more : (x : X) (xs : List X) (t s : X) → IsReached xs t s → IsReached (x ∷ xs) t s
  IsReached-more x xs t s reached = ⊎_elim (λ (e : s ≡ t). inl e) (λ h. inr (Contains-tail x xs s h.0, h.1)) reached

  -- what the first one beats is reached by way of it
  IsReached-through : (x : X) (xs : List X) (t s : X) → beats x t ≡ true → IsReached xs x s → IsReached (x ∷ xs) t s
  IsReached-through x xs t s first reached =
      ⊎_elim (λ (e : s ≡ x). inr (Contains-here x xs s (sym e), subst (λ y. beats y t ≡ true) (sym e) first))
      (λ h. inr (Contains-tail x xs s h.0, through s x t h.1 first)) reached

  -- the first one does not beat what is reached from it, nor from what it does not beat
  not_by_first : (x : X) (xs : List X) (s : X) → IsReached xs x s → beats x s ≡ true → ⊥
  not_by_first x xs s reached beaten =
      ⊎_elim (λ (e : s ≡ x). itself x (subst (λ y. beats x y ≡ true) e beaten)) (λ h. itself x (through x s x beaten h.1)) reached

  not_by_other : (x : X) (xs : List X) (t s : X) → beats x t ≡ false → IsReached xs t s → beats x s ≡ true → ⊥
  not_by_other x xs t s other reached beaten =
      ⊎_elim (λ (e : s ≡ t). false≢true (sym other ∙ subst (λ y. beats x y ≡ true) e beaten)) (λ h. false≢true (sym other ∙ through x s t beaten h.1)) reached

  abbrev pub HasUnbeaten : List X → X → Type 0
  HasUnbeaten xs t = (s : X) × IsReached xs t s × ((u : X) → Contains xs u → beats u s ≡ true → ⊥)

  free_of_more : (x : X) (xs : List X) (s : X) → (beats x s ≡ true → ⊥) → ((u : X) → Contains xs u → beats u s ≡ true → ⊥) →
      (u : X) → Contains (x ∷ xs) u → beats u s ≡ true → ⊥
  free_of_more x xs s first rest u h beaten =
      ⊎_elim (λ (e : x ≡ u). first (subst (λ y. beats y s ≡ true) (sym e) beaten)) (λ later. rest u later beaten) (Contains-cons_cases x xs u h)

  pub unbeaten_below : (xs : List X) (t : X) → HasUnbeaten xs t
  unbeaten_below [] t = (t, inl refl, λ u h _. Contains-nil u h)
  unbeaten_below (x ∷ xs) t =
      (elim (beats x t) as (λ b. beats x t ≡ b → HasUnbeaten (x ∷ xs) t) [
        | true ↦ λ first.
            let (s, reached, free) = unbeaten_below xs x in
            (s, IsReached-through x xs t s first reached, free_of_more x xs s (not_by_first x xs s reached) free)
        | false ↦ λ other.
            let (s, reached, free) = unbeaten_below xs t in
            (s, IsReached-more x xs t s reached, free_of_more x xs s (not_by_other x xs t s other reached) free)
      ]) refl
