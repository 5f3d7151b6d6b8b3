-- Machines that change one after another.
use Rattle.std.proofs.Common.{◌≡◌, ◌≢◌, ◌⊎◌, inl, inr, ℕ, zero, suc, ◌+◌, ◌<◌, List, [], ◌∷◌, ◌++◌, length, map, get_or, Some, refl, sym, ap, ◌∙◌, subst, arith}
use Rattle.std.specs.List.{slice_get, Contains}
use Rattle.std.proofs.Math.ListN.{set}
use Rattle.std.proofs.Math.Logic.{⊎_elim}
use Rattle.std.proofs.lemmas.Bool.{cases_eq}
use Rattle.std.proofs.lemmas.Option.{none-some, same_Some, slice_get_within, slice_get-get_or}
use Rattle.std.proofs.lemmas.List.{length-set, get_or-set_same}
use Rattle.std.proofs.lemmas.List.Elements.{Contains-get_or}
use Rattle.lic_auto.specs.Changes.{AreChanged, AreChangedBefore}

-- an element that is there
pub slice_get-some : {X Y : Type 0} → (xs : List X) (ys : List Y) (k : ℕ) (y : Y) → length ys ≡ length xs → slice_get ys k ≡ Some y
    → (x : X) × (slice_get xs k ≡ Some x)
slice_get-some [] ys k y same h = absurd (omega (arith, slice_get_within ys k y h))
slice_get-some (x ∷ xs) [] k y same h = absurd (omega (arith, slice_get_within [] k y h))
slice_get-some (x ∷ xs) (z ∷ ys) zero y same h = (x, refl)
slice_get-some (x ∷ xs) (z ∷ ys) (suc k) y same h = slice_get-some xs ys k y (omega arith) h

pub some_at : {X : Type 0} → (xs : List X) (k : ℕ) → k < length xs → (x : X) × (slice_get xs k ≡ Some x)
some_at [] k h = absurd (omega arith)
some_at (x ∷ xs) zero h = (x, refl)
some_at (x ∷ xs) (suc k) h = some_at xs k (omega arith)

slice_get-set_same : {X : Type 0} → (xs : List X) (i : ℕ) (x : X) → i < length xs → slice_get (set xs i x) i ≡ Some x
slice_get-set_same xs i x h =
    slice_get-get_or (set xs i x) i x (omega (arith, length-set xs i x)) ∙ ap Some (get_or-set_same xs i x x h)

slice_get-set_other : {X : Type 0} → (xs : List X) (i k : ℕ) (x : X) → k ≢ i → slice_get (set xs i x) k ≡ slice_get xs k
slice_get-set_other [] i k x apart = refl
slice_get-set_other (y ∷ xs) zero zero x apart = absurd (apart refl)
slice_get-set_other (y ∷ xs) zero (suc k) x apart = refl
slice_get-set_other (y ∷ xs) (suc i) zero x apart = refl
slice_get-set_other (y ∷ xs) (suc i) (suc k) x apart = slice_get-set_other xs i k x (λ same. apart (ap suc same))

-- an element of a list with one more at its end
pub slice_get-push : {X : Type 0} → (xs : List X) (x : X) (k : ℕ) (y : X) → slice_get (xs ++ x ∷ []) k ≡ Some y
    → (slice_get xs k ≡ Some y) ⊎ (x ≡ y)
slice_get-push [] x zero y h = inr (same_Some x y h)
slice_get-push [] x (suc k) y h = absurd (none-some y h)
slice_get-push (z ∷ xs) x zero y h = inl h
slice_get-push (z ∷ xs) x (suc k) y h = slice_get-push xs x k y h

-- what is computed of an element of a list is in the list of what is computed
pub number_there : {X : Type 0} (number : X → ℕ) (xs : List X) (k : ℕ) (x : X) → slice_get xs k ≡ Some x
    → (k < length (map number xs)) × (get_or (map number xs) k 0 ≡ number x)
number_there number [] k x h = absurd (none-some x h)
number_there number (y ∷ xs) zero x h = (omega arith, ap number (same_Some y x h))
number_there number (y ∷ xs) (suc k) x h = let (inside, is) = number_there number xs k x h in (omega arith, is)

pub has_number : {X : Type 0} (number : X → ℕ) (xs : List X) (k : ℕ) (x : X) → slice_get xs k ≡ Some x → Contains (map number xs) (number x)
has_number number xs k x h =
    let (inside, is) = number_there number xs k x h in
    subst (Contains (map number xs)) is (Contains-get_or (map number xs) k 0 inside)

-- a number of such a list is that of an element
pub at_number : {X : Type 0} (number : X → ℕ) (xs : List X) (k n : ℕ) → k < length (map number xs) → get_or (map number xs) k n ≡ n
    → (x : X) × (slice_get xs k ≡ Some x) × (number x ≡ n)
at_number number [] k n inside is = absurd (omega arith)
at_number number (x ∷ xs) zero n inside is = (x, refl, is)
at_number number (x ∷ xs) (suc k) n inside is = at_number number xs k n (omega arith) is

module _ {X : Type 0} (changes : X → X → Type 0) where
  -- one more machine changes
  pub Changed-more : (end : ℕ) (old new : List X) (a b : X) → AreChangedBefore changes end old new → slice_get new end ≡ Some a → changes a b
      → AreChangedBefore changes (end + 1) old (set new end b)
  Changed-more end old new a b m here change =
      let within : end < length new = slice_get_within new end a here in
      let was : slice_get old end ≡ Some a = sym (m.others end (omega arith)) ∙ here in
      let is : slice_get (set new end b) end ≡ Some b = slice_get-set_same new end b within in
      record {
        count = length-set new end b ∙ m.count;
        before = λ k x y low p q.
            ⊎_elim
            (λ (same : k ≡ end).
            let x_is : x ≡ a = same_Some x a (sym p ∙ ap (slice_get old) same ∙ was) in
            let y_is : y ≡ b = same_Some y b (sym q ∙ ap (slice_get (set new end b)) same ∙ is) in
            subst (λ s. changes s y) (sym x_is) (subst (changes a) (sym y_is) change))
            (λ (apart : k ≢ end). m.before k x y (omega (arith, low, apart)) p (sym (slice_get-set_other new end k b apart) ∙ q))
            (cases_eq k end);
        others = λ k high. slice_get-set_other new end k b (λ same. omega (arith, same, high)) ∙ m.others k (omega (arith, high));
      }

  -- what a machine was before
  pub Changed-was : (old new : List X) → AreChanged changes old new → (k : ℕ) (b : X) → slice_get new k ≡ Some b
      → (a : X) × (slice_get old k ≡ Some a) × changes a b
  Changed-was old new m k b there =
      let (a, was) = slice_get-some old new k b m.count there in
      (a, was, m.before k a b (slice_get_within old k a was) was there)

-- numbers that stay at each index stay
same_numbers : {X : Type 0} (number : X → ℕ) (old new : List X) → length new ≡ length old
    → ((k : ℕ) (a b : X) → slice_get old k ≡ Some a → slice_get new k ≡ Some b → number b ≡ number a) → map number new ≡ map number old
same_numbers number [] [] size same = refl
same_numbers number [] (b ∷ new) size same = absurd (omega arith)
same_numbers number (a ∷ old) [] size same = absurd (omega arith)
same_numbers number (a ∷ old) (b ∷ new) size same =
    ap (λ n. n ∷ map number new) (same 0 a b refl refl)
    ∙ ap (λ ns. number a ∷ ns) (same_numbers number old new (omega arith) (λ k x y p q. same (suc k) x y p q))

pub Changed-numbers : {X : Type 0} (changes : X → X → Type 0) (number : X → ℕ) → ((a b : X) → changes a b → number b ≡ number a)
    → (old new : List X) → AreChanged changes old new → map number new ≡ map number old
Changed-numbers changes number keeps old new m =
    same_numbers number old new m.count (λ k a b p q. keeps a b (m.before k a b (slice_get_within old k a p) p q))
