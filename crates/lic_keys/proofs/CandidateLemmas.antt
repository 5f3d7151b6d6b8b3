-- Literals that are kept as candidates, and the places at which they end.
use Rattle.std.proofs.Common.{◌≡◌, ◌↔◌, ◌&&◌, ℕ, ◌-◌, ◌<◌, ◌≤◌, true, List, Some, inl, inr, map, filter, leb, length, get_or, All, sym, ap, ◌∙◌, subst, arith}
use Rattle.std.specs.Bool.{Decides}
use Rattle.std.specs.Prelude.{IfOk, IfSome, Result, Ok, Err, slice_range}
use Rattle.std.specs.List.{Contains}
use Rattle.std.specs.List.Sorted.{IsStrictlyIncreasing}
use Rattle.std.specs.Str.{bytes_eq}
use Rattle.std.proofs.lemmas.Bool.{cases_lt, le-leb, leb-true}
use Rattle.std.proofs.lemmas.Bool.Decides.{Decides-and}
use Rattle.std.proofs.lemmas.List.{get_or-map, get_or_default, length-map}
use Rattle.std.proofs.lemmas.List.Elements.{All-contains, filter_passes}
use Rattle.std.proofs.lemmas.List.Kept.{IsStrictlyIncreasing-filter}
use Rattle.std.proofs.lemmas.Map.Keys.{below_from_sorted, sorted_from_strictly_increasing}
use Rattle.std.proofs.lemmas.Slice.Eq.{bytes_eq-Decides}
use Rattle.lic_phrases.proofs.WordClasses.{contains-map}
use Rattle.lic_literals.specs.Ends.{EndsAt}
use Rattle.lic_literals.specs.Kept.{MayEndAt, ends_of}
use Rattle.lic_literals.specs.declared.kept.Kept.{Kept}
use Rattle.lic_literals.proofs.KeptLemmas.{Contains-filter}
use Rattle.lic_literals.proofs.Occurring.{EndsAt-range}
use Rattle.lic_keys.specs.Candidates.{IsCandidateIn, KeepsEnds, ends_at}
use Rattle.lic_keys.specs.Keys.{KeysValue, letters_of}

-- four facts of a value together
pub IfOk-four : {X Y : Type 0} (r : Result X Y) (P Q R S G : X → Type 0) → ((x : X) → P x → Q x → R x → S x → G x) →
    IfOk r P → IfOk r Q → IfOk r R → IfOk r S → IfOk r G
IfOk-four (Ok x) P Q R S G all p q r s = all x p q r s
IfOk-four (Err e) P Q R S G all p q r s = tt

-- ---- candidates

-- what is known of the literals that are kept
pub record AreKept (keys : KeysValue) (bytes : List ℕ) (kept : List Kept) : Type 0 where
  pub rising : IsStrictlyIncreasing (map (λ k. k.number) kept)
  pub below : All (λ k. k.number < length keys.texts) kept
  pub complete : (number e : ℕ) → number < length keys.texts → EndsAt bytes (letters_of keys number) e →
      (k : Kept) × Contains kept k × (k.number ≡ number) × MayEndAt k e
  pub ends_rise : All (λ k. IfSome (ends_of k) IsStrictlyIncreasing) kept

module _ (keys : KeysValue) (bytes : List ℕ) (kept : List Kept) (are : AreKept keys bytes kept) where
  pub ending-found : (number e : ℕ) → number < length keys.texts → EndsAt bytes (letters_of keys number) e →
      Contains (map (λ c. c.number) kept) number
  ending-found number e below ends =
      let (k, inside, is, may) = are.complete number e below ends in
      subst (Contains (map (λ k. k.number) kept)) is (contains-map (λ (k : Kept). k.number) kept k inside)

  -- two that are kept have different numbers
  one-alone : (i j : ℕ) (d : Kept) → i < length kept → j < length kept → (get_or kept i d).number ≡ (get_or kept j d).number → i ≡ j
  one-alone i j d inside within same =
      let numbers = map (λ (k : Kept). k.number) kept in
      let size : length numbers ≡ length kept = length-map kept (λ k. k.number) in
      let first : get_or numbers i 0 ≡ (get_or kept i d).number = get_or-map (λ k. k.number) kept i d 0 inside in
      let second : get_or numbers j 0 ≡ (get_or kept j d).number = get_or-map (λ k. k.number) kept j d 0 within in
      let sorted = sorted_from_strictly_increasing numbers are.rising in
      elim (cases_lt i j) [
        | inl before ↦ absurd (omega (arith, below_from_sorted numbers i j 0 sorted before (omega arith)))
        | inr not_before ↦
            elim (cases_lt j i) [
              | inl after ↦ absurd (omega (arith, below_from_sorted numbers j i 0 sorted after (omega arith)))
              | inr not_after ↦ omega arith
            ]
      ]

  kept-keeps : (i : ℕ) (d : Kept) → i < length kept → KeepsEnds bytes (letters_of keys (get_or kept i d).number) (get_or kept i d)
  kept-keeps i d inside = record {
    all = λ e ends.
        let (k, (j, within, is), same, may) = are.complete (get_or kept i d).number e (are.below i d inside) ends in
        let there : get_or kept j d ≡ k = get_or_default kept j d k within ∙ is in
        let at : j ≡ i = one-alone j i d within inside (ap (λ x. x.number) there ∙ same) in
        subst (λ x. MayEndAt x e) (sym there ∙ ap (λ n. get_or kept n d) at) may;
    rising = are.ends_rise i d inside;
  }

  pub each-candidate : All (IsCandidateIn keys bytes) kept
  each-candidate i d inside = record { below = are.below i d inside; ends = λ part is. kept-keeps i d inside }

-- ---- ends

leb-Decides : (a b : ℕ) → Decides (leb a b) (a ≤ b)
leb-Decides a b = (leb-true a b, le-leb a b)

module _ (bytes letters : List ℕ) where
  ends_at-Decides : (e : ℕ) → Decides (ends_at bytes letters e) (EndsAt bytes letters e)
  ends_at-Decides e =
      let part = slice_range bytes (e - length letters) e in
      let all =
      Decides-and (leb (length letters) e) (leb e (length bytes) && bytes_eq part letters) (leb-Decides (length letters) e)
      (Decides-and (leb e (length bytes)) (bytes_eq part letters) (leb-Decides e (length bytes)) (bytes_eq-Decides part letters)) in (
        λ test.
            let (fits, (within, is)) = all.0 test in
            record { start = e - length letters; end = omega arith; within = within; is = is },
        λ ends.
            let fits : length letters ≤ e = omega (arith, ends.end) in
            all.1 (fits, (ends.within, EndsAt-range bytes letters (e - length letters) e ends (omega arith))),
      )

  -- the places among which all ends are
  module _ (candidate : Kept) (keeps : KeepsEnds bytes letters candidate) (places : List ℕ) (known : ends_of candidate ≡ Some places) where
    pub true-exact : (e : ℕ) → Contains (filter (ends_at bytes letters) places) e ↔ EndsAt bytes letters e
    true-exact e = (
      λ inside. (ends_at-Decides e).0 (All-contains (λ x. ends_at bytes letters x ≡ true) (filter (ends_at bytes letters) places) e (filter_passes (ends_at bytes letters) places) inside),
      λ ends.
          let among : Contains places e = subst (λ o. IfSome o (λ list. Contains list e)) known (keeps.all e ends) in
          Contains-filter (ends_at bytes letters) places e among ((ends_at-Decides e).1 ends),
    )

    pub true-rising : IsStrictlyIncreasing (filter (ends_at bytes letters) places)
    true-rising = IsStrictlyIncreasing-filter (ends_at bytes letters) places (subst (λ o. IfSome o IsStrictlyIncreasing) known keeps.rising)
