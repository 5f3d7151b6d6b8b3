-- The bundles of one template after another.
use Rattle.std.proofs.Common.{◌≡◌, ◌⊎◌, ℕ, ◌+◌, ◌-◌, ◌<◌, ◌≤◌, List, [], ◌∷◌, ◌++◌, length, Option, Result, Ok, Err, Some, None, IfOk, IfSome, inl, inr, refl, sym, subst, arith, get_or, ⊎_elim}
use Rattle.std.specs.Prelude.{All, AllPairs, Contains}
use Rattle.std.specs.List.{slice_get}
use Rattle.std.proofs.lemmas.List.Elements.{All-append, All-contains, All-nil, Contains-append_cases, Contains-append_left, Contains-append_right, Contains-get_or, Contains-push, Contains-push_cases}
use Rattle.std.proofs.lemmas.List.{get_or-append_right, get_or_append_left, length-append}
use Rattle.std.proofs.lemmas.Bool.{cases_lt}
use Rattle.lic_literals.proofs.Rising.{IsStrictlyIncreasing-push}
use Rattle.lic_norm.specs.Tokens.{TokenValue}
use Rattle.lic_set.specs.Matches.{IsMatch}
use Rattle.lic_set.specs.Rising.{IsRising}
use Rattle.lic_set.specs.Sets.{Known, words_of}
use Rattle.lic_set.specs.declared.triple.Triple.{Triple}
use Rattle.lic_search.specs.declared.range.Range.{Range}
use Rattle.lic_bundles.specs.declared.bundle.Bundle.{Bundle}
use Rattle.lic_search.specs.declared.all.BundledMatches.{BundledMatches}
use Rattle.lic_bundles.specs.Bundles.{AreApart, IsOf}
use Rattle.lic_search.specs.AllMatches.{AddsBundles, AddsLeft, AddsTemplate, AreBundlesOf, AreMatchBundles, BundlesHold, IsOrdered}
use Rattle.lic_search.specs.Matches.{HasLeastRanges, range_of}
use Rattle.lic_search.proofs.TemplateMatches.{describes_from, match_from}

-- ---- one template

-- what is known of bundles, where they are few
pub few-are : {R S E : Type 0} (P : R → Type 0) (bundles : Result R S) (found : Result (Option R) E) → IfOk bundles P →
    IfOk found (λ few. IfSome few (λ r. bundles ≡ Ok r)) → IfOk found (λ few. IfSome few P)
few-are P bundles (Ok (Some r)) is same = subst (λ x. IfOk x P) same is
few-are P bundles (Ok None) is same = tt
few-are P bundles (Err e) is same = tt

module _ (set : List Known) (tokens : List TokenValue) (number : ℕ) (known : Known) (is : slice_get set number ≡ Some known) where
  -- the ranges that a template describes are its matches
  pub match-bundles : (bundles : List Bundle) → AreBundlesOf tokens (words_of known) number bundles → AreMatchBundles set tokens number bundles
  match-bundles bundles are = record {
    exact = λ t. (
      λ holds. let d = (are.exact t).0 holds in
          (subst (λ n. IsMatch set tokens (record { first = t.first; last = t.last; template = n })) (sym d.1) (match_from set tokens number known is (range_of t) d.0), d.1),
      λ m. (are.exact t).1 (describes_from set tokens number known is t m.0 m.1, m.1),
    );
    ordered = are.ordered;
    once = are.once;
  }

  -- where no least range is, no match is
  pub match-none : (least : List Range) (bundles : List Bundle) → HasLeastRanges tokens (words_of known) least → least ≡ [] → bundles ≡ [] → AreMatchBundles set tokens number bundles
  match-none least bundles has none empty = subst (AreMatchBundles set tokens number) (sym empty) (record {
    exact = λ t. (
      λ holds. absurd (omega (arith, holds.among.1)),
      λ m.
          let one = has.within (range_of t) (describes_from set tokens number known is t m.0 m.1) in
          absurd (let gone = subst (λ x. Contains x one.0) none one.1 in omega (arith, gone.1)),
    );
    ordered = All-nil IsOrdered;
    once = λ i j d before low. absurd (omega arith);
  })

-- ---- bundles of more templates

-- pairs of two lists one after the other
AllPairs-joined : {X : Type 0} (R : X → X → Type 0) (xs ys : List X) → AllPairs R xs → AllPairs R ys → ((x y : X) → Contains xs x → Contains ys y → R x y) →
    AllPairs R (xs ++ ys)
AllPairs-joined {X = X} R xs ys first second across = λ i j d before low. by_place i j d before low (cases_lt j (length xs)) (cases_lt i (length xs))
  where
    by_place : (i j : ℕ) (d : X) → i < j → j < length (xs ++ ys) → (j < length xs) ⊎ (length xs ≤ j) → (i < length xs) ⊎ (length xs ≤ i) →
        R (get_or (xs ++ ys) i d) (get_or (xs ++ ys) j d)
    by_place i j d before low (inl in_first) other =
        let one : get_or (xs ++ ys) i d ≡ get_or xs i d = get_or_append_left xs ys d i (omega arith) in
        let two : get_or (xs ++ ys) j d ≡ get_or xs j d = get_or_append_left xs ys d j in_first in
        subst (λ x. R x (get_or (xs ++ ys) j d)) (sym one) (subst (λ y. R (get_or xs i d) y) (sym two) (first i j d before in_first))
    by_place i j d before low (inr in_second) (inl in_first) =
        let size : length (xs ++ ys) ≡ length xs + length ys = length-append xs ys in
        let one : get_or (xs ++ ys) i d ≡ get_or xs i d = get_or_append_left xs ys d i in_first in
        let two : get_or (xs ++ ys) j d ≡ get_or ys (j - length xs) d = get_or-append_right xs ys (length xs) j d refl in_second in
        subst (λ x. R x (get_or (xs ++ ys) j d)) (sym one) (subst (λ y. R (get_or xs i d) y) (sym two)
        (across (get_or xs i d) (get_or ys (j - length xs) d) (Contains-get_or xs i d in_first) (Contains-get_or ys (j - length xs) d (omega arith))))
    by_place i j d before low (inr in_second) (inr also) =
        let size : length (xs ++ ys) ≡ length xs + length ys = length-append xs ys in
        let one : get_or (xs ++ ys) i d ≡ get_or ys (i - length xs) d = get_or-append_right xs ys (length xs) i d refl also in
        let two : get_or (xs ++ ys) j d ≡ get_or ys (j - length xs) d = get_or-append_right xs ys (length xs) j d refl in_second in
        subst (λ x. R x (get_or (xs ++ ys) j d)) (sym one) (subst (λ y. R (get_or ys (i - length xs) d) y) (sym two)
        (second (i - length xs) (j - length xs) d (omega arith) (omega arith)))

bundles-left : (xs ys : List Bundle) (t : Triple) → BundlesHold xs t → BundlesHold (xs ++ ys) t
bundles-left xs ys t h = record { bundle = h.bundle; among = Contains-append_left xs ys h.bundle h.among; is = h.is }

bundles-right : (xs ys : List Bundle) (t : Triple) → BundlesHold ys t → BundlesHold (xs ++ ys) t
bundles-right xs ys t h = record { bundle = h.bundle; among = Contains-append_right xs ys h.bundle h.among; is = h.is }

bundles-cases : (xs ys : List Bundle) (t : Triple) → BundlesHold (xs ++ ys) t → BundlesHold xs t ⊎ BundlesHold ys t
bundles-cases xs ys t h =
    ⊎_elim (λ one. inl (record { bundle = h.bundle; among = one; is = h.is })) (λ other. inr (record { bundle = h.bundle; among = other; is = h.is }))
    (Contains-append_cases xs ys h.bundle h.among)

-- of the templates of these numbers each match is in a bundle, or the template is left
pub record HasAllOf (set : List Known) (tokens : List TokenValue) (numbers : List ℕ) (bundles : List Bundle) (left : List ℕ) : Type 0 where
  pub sound : (t : Triple) → BundlesHold bundles t → IsMatch set tokens t
  pub complete : (t : Triple) → IsMatch set tokens t → Contains numbers t.template → BundlesHold bundles t ⊎ Contains left t.template
  pub rising : IsRising left (length set)
  pub known : (n : ℕ) → Contains left n → Contains numbers n
  pub own : (bundle : Bundle) → Contains bundles bundle → Contains numbers bundle.template
  pub others : (bundle : Bundle) → Contains bundles bundle → Contains left bundle.template → ⊥
  pub ordered : All IsOrdered bundles
  pub once : AreApart bundles

pub all_none : (set : List Known) (tokens : List TokenValue) (bundles : List Bundle) (left : List ℕ) → bundles ≡ [] → left ≡ [] → HasAllOf set tokens [] bundles left
all_none set tokens bundles left no_bundles no_left = subst (λ x. HasAllOf set tokens [] x left) (sym no_bundles) (subst (λ x. HasAllOf set tokens [] [] x) (sym no_left) (record {
  sound = λ t h. absurd (omega (arith, h.among.1));
  complete = λ t m among. absurd (omega (arith, among.1));
  rising = record { order = λ i low. absurd (omega arith); below = λ i low. absurd (omega arith) };
  known = λ n among. absurd (omega (arith, among.1));
  own = λ bundle among. absurd (omega (arith, among.1));
  others = λ bundle among left. omega (arith, among.1);
  ordered = All-nil IsOrdered;
  once = λ i j d before low. absurd (omega arith);
}))

module _ (set : List Known) (tokens : List TokenValue) (numbers : List ℕ) (number : ℕ) (old new : BundledMatches)
    (has : HasAllOf set tokens numbers old.bundles.items old.left.items) (greater : (n : ℕ) → Contains numbers n → n < number) (below : number < length set) where
  -- its bundles
  with_bundles : AddsBundles set tokens number old new → HasAllOf set tokens (numbers ++ number ∷ []) new.bundles.items new.left.items
  with_bundles adds = subst (λ x. HasAllOf set tokens (numbers ++ number ∷ []) x new.left.items) (sym adds.added)
      (subst (λ x. HasAllOf set tokens (numbers ++ number ∷ []) (old.bundles.items ++ adds.more) x) (sym adds.left) (record {
        sound = λ t h. ⊎_elim (has.sound t) (λ new_ones. ((adds.are.exact t).0 new_ones).0) (bundles-cases old.bundles.items adds.more t h);
        complete = λ t m among.
            ⊎_elim
            (λ before. ⊎_elim (λ h. inl (bundles-left old.bundles.items adds.more t h)) inr (has.complete t m before))
            (λ (same : number ≡ t.template). inl (bundles-right old.bundles.items adds.more t ((adds.are.exact t).1 (m, sym same))))
            (Contains-push_cases numbers number t.template among);
        rising = has.rising;
        known = λ n among. Contains-append_left numbers (number ∷ []) n (has.known n among);
        own = λ bundle among.
            ⊎_elim (λ before. Contains-append_left numbers (number ∷ []) bundle.template (has.own bundle before))
            (λ later. subst (Contains (numbers ++ number ∷ [])) (sym (template bundle later)) (Contains-push numbers number))
            (Contains-append_cases old.bundles.items adds.more bundle among);
        others = λ bundle among left.
            ⊎_elim (λ before. has.others bundle before left)
            (λ later. let less = greater bundle.template (has.known bundle.template left) in let same = template bundle later in omega arith)
            (Contains-append_cases old.bundles.items adds.more bundle among);
        ordered = All-append IsOrdered old.bundles.items adds.more has.ordered adds.are.ordered;
        once = AllPairs-joined (λ one other. (t : Triple) → IsOf one t → IsOf other t → ⊥) old.bundles.items adds.more has.once adds.are.once
            (λ one other first second t h k.
            let less = greater one.template (has.own one first) in
            let same = template other second in
            omega (arith, h.template, k.template));
      }))
    where
      -- each of the bundles is not empty, so it has the template's number
      template : (bundle : Bundle) → Contains adds.more bundle → bundle.template ≡ number
      template bundle among =
          let order = All-contains IsOrdered adds.more bundle adds.are.ordered among in
          let t : Triple = record { first = bundle.from; last = bundle.last; template = bundle.template } in
          let is : IsOf bundle t = record { from = omega arith; to = order.order; last = refl; template = refl } in
          ((adds.are.exact t).0 (record { bundle = bundle; among = among; is = is })).1

  -- its number
  with_left : AddsLeft number old new → HasAllOf set tokens (numbers ++ number ∷ []) new.bundles.items new.left.items
  with_left adds = subst (λ x. HasAllOf set tokens (numbers ++ number ∷ []) x new.left.items) (sym adds.bundles)
      (subst (λ x. HasAllOf set tokens (numbers ++ number ∷ []) old.bundles.items x) (sym adds.left) (record {
        sound = has.sound;
        complete = λ t m among.
            ⊎_elim
            (λ before. ⊎_elim inl (λ was. inr (Contains-append_left old.left.items (number ∷ []) t.template was)) (has.complete t m before))
            (λ (same : number ≡ t.template). inr (subst (Contains (old.left.items ++ number ∷ [])) same (Contains-push old.left.items number)))
            (Contains-push_cases numbers number t.template among);
        rising = record {
          order = IsStrictlyIncreasing-push old.left.items number has.rising.order (λ n among. greater n (has.known n among));
          below = λ i low. within (get_or (old.left.items ++ number ∷ []) i 0)
              (Contains-push_cases old.left.items number (get_or (old.left.items ++ number ∷ []) i 0) (Contains-get_or (old.left.items ++ number ∷ []) i 0 low));
        };
        known = λ n among.
            ⊎_elim (λ before. Contains-append_left numbers (number ∷ []) n (has.known n before))
            (λ (same : number ≡ n). subst (Contains (numbers ++ number ∷ [])) same (Contains-push numbers number))
            (Contains-push_cases old.left.items number n among);
        own = λ bundle among. Contains-append_left numbers (number ∷ []) bundle.template (has.own bundle among);
        others = λ bundle among left.
            ⊎_elim (λ before. has.others bundle among before)
            (λ (same : number ≡ bundle.template). let less = greater bundle.template (has.own bundle among) in omega arith)
            (Contains-push_cases old.left.items number bundle.template left);
        ordered = has.ordered;
        once = has.once;
      }))
    where
      within : (n : ℕ) → Contains old.left.items n ⊎ (number ≡ n) → n < length set
      within n (inl before) = let less = greater n (has.known n before) in omega arith
      within n (inr same) = omega arith

  pub all_more : AddsTemplate set tokens number old new → HasAllOf set tokens (numbers ++ number ∷ []) new.bundles.items new.left.items
  all_more (inl bundles) = with_bundles bundles
  all_more (inr left) = with_left left
