-- Two queues of bundles: the bundle that comes first is taken, and goes to the end of the first queue without its first triple.
use Rattle.std.proofs.Common.{◌≡◌, ◌+◌, ◌<◌, ◌≤◌, suc, true, false, ◌⊎◌, List, [], ◌∷◌, ◌++◌, get_or, Option, Some, None, refl, sym, ap, ◌∙◌, subst, inl, inr, ⊎_elim, arith, append-nil}
use Rattle.std.specs.List.{All, AllPairs, Contains, slice_get}
use Rattle.std.specs.Option.{option_to_list, IfSome}
use Rattle.std.proofs.lemmas.Bool.{cases_lt}
use Rattle.std.proofs.lemmas.Bool.Decides.{not_from_Decides}
use Rattle.std.proofs.lemmas.List.Elements.{All-nil, All-cons, All-head, All-tail, All-append, All-push, All-weaker}
use Rattle.std.proofs.lemmas.List.Quantifiers.{all_pairs_push}
use Rattle.lic_set.specs.Matches.{Precedes, triple_at}
use Rattle.lic_set.specs.declared.triple.Triple.{Triple}
use Rattle.lic_bundles.specs.declared.bundle.Bundle.{Bundle}
use Rattle.lic_bundles.specs.Bundles.{IsOf, first_of, others_of}
use Rattle.lic_bundles.specs.Listing.{all_triples}
use Rattle.lic_bundles.specs.Merging.{count_of, IsNoLater, IsNoLaterThanNext, AreQueues, IsTaken, comes_first}
use Rattle.lic_bundles.proofs.Counting.{one_of, one_cases, count-cons, count-append, counted_in, counted-head, counted_cases}
use Rattle.lic_bundles.proofs.ListingLemmas.{AreAscending-all_triples, Contains-all_triples, counted-all_triples, all_triples-unique, all_triples-same}
use Rattle.lic_bundles.proofs.Parts.{moved, part_cases, counted_part, part_counted, count-part}
use Rattle.lic_bundles.proofs.TripleOrder.{same_parts, not_before, no_later_trans, Precedes-both, Decides-precedes, Contains-head, Contains-tail, Contains-cons_cases}

-- the first triple of a bundle is no later than any
first_no_later : (b : Bundle) (t : Triple) → IsOf b t → ¬ (Precedes t (first_of b))
first_no_later b t of = λ h.
    let from : b.from ≤ t.first = of.from in
    let last : t.last ≡ b.last = of.last in
    let template : t.template ≡ b.template = of.template in
    omega (arith, h)

first_or_later : (b : Bundle) (t : Triple) → IsOf b t → (t ≡ first_of b) ⊎ (b.from + 1 ≤ t.first)
first_or_later b t of =
    let from : b.from ≤ t.first = of.from in
    elim (cases_lt b.from t.first) [
      | inl more ↦ inr (omega arith)
      | inr high ↦ let first : b.from ≡ t.first = omega arith in inl (same_parts (first_of b) t first (sym of.last) (sym of.template))
    ]

IsOf-first : (b : Bundle) → b.from ≤ b.to → IsOf b (first_of b)
IsOf-first b filled = record { from = omega arith; to = filled; last = refl; template = refl }

module _ (b : Bundle) (left : List Bundle) (filled : b.from ≤ b.to) (once : (t : Triple) → count_of t (b ∷ left) ≤ 1) (first : All (IsNoLater b) left) where
  -- the bundles that are left
  abbrev after : List Bundle
  after = option_to_list (others_of b) ++ left

  first_comes_first : (t : Triple) → 0 < count_of t after → Precedes (first_of b) t
  first_comes_first t h =
      elim (cases_lt 0 (count_of t (option_to_list (others_of b)))) [
        | inl own ↦ let (of, low) = part_counted (b.from + 1) b t (omega arith) own in inl (omega arith)
        | inr none ↦
            let more : 0 < count_of t left = omega (arith, count-append t (option_to_list (others_of b)) left) in
            let (c, late, of) = counted_in (IsNoLater b) t left first more in
            ⊎_elim
            (λ (e : first_of b ≡ t).
            let twice : 0 < count_of (first_of b) left = subst (λ u. 0 < count_of u left) (sym e) more in
            absurd (elim (one_cases (first_of b) b) [
              | inl (own, one) ↦ omega (arith, once (first_of b), count-cons (first_of b) b left)
              | inr (never, _) ↦ never (IsOf-first b filled)
            ]))
            (λ (below : Precedes (first_of b) t). below)
            (not_before t (first_of b) (no_later_trans (first_of b) (first_of c) t late (first_no_later c t of)))
      ]

  listed_before : (t : Triple) → Contains (first_of b ∷ all_triples after) t → 0 < count_of t (b ∷ left)
  listed_before t h =
      elim (Contains-cons_cases (first_of b) (all_triples after) t h) [
        | inl e ↦ subst (λ u. 0 < count_of u (b ∷ left)) e (counted-head (first_of b) b left (IsOf-first b filled))
        | inr more ↦
            omega (
              arith,
              counted-all_triples after t more,
              count-append t (option_to_list (others_of b)) left,
              count-part (b.from + 1) b t (omega arith),
              count-cons t b left,
            )
      ]

  listed_after : (t : Triple) → 0 < count_of t (b ∷ left) → Contains (first_of b ∷ all_triples after) t
  listed_after t h =
      elim (counted_cases t b left h) [
        | inl of ↦
            elim (first_or_later b t of) [
              | inl e ↦ subst (λ u. Contains (first_of b ∷ all_triples after) u) (sym e) (Contains-head (first_of b) (all_triples after))
              | inr later ↦
                  Contains-tail (first_of b) (all_triples after) t
                  (Contains-all_triples after t
                  (omega (arith, count-append t (option_to_list (others_of b)) left, counted_part (b.from + 1) b t of later)))
            ]
        | inr more ↦
            Contains-tail (first_of b) (all_triples after) t
            (Contains-all_triples after t (omega (arith, count-append t (option_to_list (others_of b)) left)))
      ]

  -- The triples of bundles are the first of that which comes first, and those that are left.
  pub all_triples-first : all_triples (b ∷ left) ≡ first_of b ∷ all_triples after
  all_triples-first =
      sym (all_triples-unique (b ∷ left) (first_of b ∷ all_triples after)
      (λ t h. first_comes_first t (counted-all_triples after t h), AreAscending-all_triples after) listed_before listed_after)

AllPairs-tail : {X : Type 0} (R : X → X → Type 0) (x : X) (xs : List X) → AllPairs R (x ∷ xs) → AllPairs R xs
AllPairs-tail R x xs all = λ i j d less high. all (suc i) (suc j) d (omega arith) (omega arith)

AllPairs-head : {X : Type 0} (R : X → X → Type 0) (x : X) (xs : List X) → AllPairs R (x ∷ xs) → All (R x) xs
AllPairs-head R x xs all = λ k d high. all 0 (suc k) d (omega arith) (omega arith)

All-left : {X : Type 0} (P : X → Type 0) (xs ys : List X) → All P (xs ++ ys) → All P xs
All-left P [] ys all = All-nil P
All-left P (x ∷ xs) ys all = All-cons P x xs (All-head P x (xs ++ ys) all) (All-left P xs ys (All-tail P x (xs ++ ys) all))

All-right : {X : Type 0} (P : X → Type 0) (xs ys : List X) → All P (xs ++ ys) → All P ys
All-right P [] ys all = all
All-right P (x ∷ xs) ys all = All-right P xs ys (All-tail P x (xs ++ ys) all)

IsNoLater-trans : (b c d : Bundle) → IsNoLater b c → IsNoLater c d → IsNoLater b d
IsNoLater-trans b c d h k = no_later_trans (first_of b) (first_of c) (first_of d) h k

-- The first bundle of sorted queues is no later than the others.
first_of_sorted : (b : Bundle) (left others : List Bundle) → AllPairs IsNoLater (b ∷ left) → All (IsNoLater b) others
    → All (IsNoLater b) (left ++ others)
first_of_sorted b left others sorted late = All-append (IsNoLater b) left others (AllPairs-head IsNoLater b left sorted) late

late_others : (b : Bundle) (others : List Bundle) → AllPairs IsNoLater others → IfSome (slice_get others 0) (IsNoLater b) → All (IsNoLater b) others
late_others b [] sorted late = All-nil (IsNoLater b)
late_others b (c ∷ cs) sorted late =
    All-cons (IsNoLater b) c cs late (All-weaker (IsNoLater c) (IsNoLater b) (λ d h. IsNoLater-trans b c d late h) cs (AllPairs-head IsNoLater c cs sorted))

-- what `take_first` takes out of the first queue
pub first_of_begun : (begun waiting : List Bundle) → AllPairs IsNoLater begun → AllPairs IsNoLater waiting → comes_first begun waiting ≡ true
    → (taken : Option Bundle) (left : List Bundle) → begun ≡ option_to_list taken ++ left → IfSome taken (λ b. All (IsNoLater b) (left ++ waiting))
first_of_begun begun waiting begun_sorted waiting_sorted first None left is = tt
first_of_begun begun waiting begun_sorted waiting_sorted first (Some b) left is =
    first_of_sorted b left waiting (subst (AllPairs IsNoLater) is begun_sorted)
    (late_others b waiting waiting_sorted (go waiting (subst (λ bs. comes_first bs waiting ≡ true) is first))) where
      go : (others : List Bundle) → comes_first (b ∷ left) others ≡ true → IfSome (slice_get others 0) (IsNoLater b)
      go [] h = tt
      go (c ∷ cs) h = λ later. Precedes-both (first_of b) (first_of c) ((Decides-precedes (first_of b) (first_of c)).0 h) later

-- and out of the second
pub first_of_waiting : (begun waiting : List Bundle) → AllPairs IsNoLater begun → AllPairs IsNoLater waiting → comes_first begun waiting ≡ false
    → (taken : Option Bundle) (left : List Bundle) → waiting ≡ option_to_list taken ++ left → IfSome taken (λ b. All (IsNoLater b) (begun ++ left))
first_of_waiting begun waiting begun_sorted waiting_sorted first None left is = tt
first_of_waiting begun waiting begun_sorted waiting_sorted first (Some b) left is =
    All-append (IsNoLater b) begun left
    (late_others b begun begun_sorted (go begun (subst (λ bs. comes_first begun bs ≡ false) is first)))
    (AllPairs-head IsNoLater b left (subst (AllPairs IsNoLater) is waiting_sorted)) where
      go : (others : List Bundle) → comes_first others (b ∷ left) ≡ false → IfSome (slice_get others 0) (IsNoLater b)
      go [] h = tt
      go (c ∷ cs) h = not_from_Decides _ (Decides-precedes (first_of c) (first_of b)) h

-- what is counted once a bundle is taken
count-taken : (b : Bundle) (begun waiting begun_left waiting_left : List Bundle) → IsTaken b begun waiting begun_left waiting_left
    → (t : Triple) → count_of t (begun ++ waiting) ≡ count_of t (b ∷ (begun_left ++ waiting_left))
count-taken b begun waiting begun_left waiting_left (inl (is, same)) t =
    ap (λ bs. count_of t (bs ++ waiting)) is ∙ ap (λ ws. count_of t (b ∷ (begun_left ++ ws))) (sym same)
count-taken b begun waiting begun_left waiting_left (inr (is, same)) t =
    omega (
      arith,
      ap (λ ws. count_of t (begun ++ ws)) is,
      ap (λ bs. count_of t bs) same,
      count-append t begun (b ∷ waiting_left),
      count-append t begun_left waiting_left,
      count-cons t b waiting_left,
      count-cons t b (begun_left ++ waiting_left),
    )

-- what holds of each bundle holds of the one that is taken and of the others
module _ (P : Bundle → Type 0) (b : Bundle) (begun waiting begun_left waiting_left : List Bundle) where
  All-taken : IsTaken b begun waiting begun_left waiting_left → All P (begun ++ waiting) → P b × All P (begun_left ++ waiting_left)
  All-taken (inl (is, same)) all =
      let all' : All P (b ∷ (begun_left ++ waiting)) = subst (λ bs. All P (bs ++ waiting)) is all in
      (All-head P b (begun_left ++ waiting) all', subst (λ ws. All P (begun_left ++ ws)) (sym same) (All-tail P b (begun_left ++ waiting) all'))
  All-taken (inr (is, same)) all =
      let right : All P (b ∷ waiting_left) = subst (All P) is (All-right P begun waiting all) in (
        All-head P b waiting_left right,
        All-append P begun_left waiting_left (subst (All P) (sym same) (All-left P begun waiting all)) (All-tail P b waiting_left right),
      )

module _ (b : Bundle) (begun waiting begun_left waiting_left : List Bundle) (taken : IsTaken b begun waiting begun_left waiting_left)
    (queues : AreQueues begun waiting) where
  All-begun_taken : (P : Bundle → Type 0) → All P begun → All P begun_left
  All-begun_taken P all =
      ⊎_elim (λ (h : (begun ≡ b ∷ begun_left) × (waiting_left ≡ waiting)). All-tail P b begun_left (subst (All P) h.0 all))
      (λ (h : (waiting ≡ b ∷ waiting_left) × (begun_left ≡ begun)). subst (All P) (sym h.1) all) taken

  sorted_taken : AllPairs IsNoLater begun_left × AllPairs IsNoLater waiting_left
  sorted_taken =
      ⊎_elim
      (λ (h : (begun ≡ b ∷ begun_left) × (waiting_left ≡ waiting)). (
        AllPairs-tail IsNoLater b begun_left (subst (AllPairs IsNoLater) h.0 queues.begun_sorted),
        subst (AllPairs IsNoLater) (sym h.1) queues.waiting_sorted,
      ))
      (λ (h : (waiting ≡ b ∷ waiting_left) × (begun_left ≡ begun)). (
        subst (AllPairs IsNoLater) (sym h.1) queues.begun_sorted,
        AllPairs-tail IsNoLater b waiting_left (subst (AllPairs IsNoLater) h.0 queues.waiting_sorted),
      )) taken

  -- the others are queues as well
  AreQueues-taken : AreQueues begun_left waiting_left
  AreQueues-taken = record {
    filled = (All-taken (λ c. c.from ≤ c.to) b begun waiting begun_left waiting_left taken queues.filled).1;
    once = λ t.
        omega (
          arith,
          queues.once t,
          count-taken b begun waiting begun_left waiting_left taken t,
          count-cons t b (begun_left ++ waiting_left),
        );
    begun_sorted = sorted_taken.0;
    waiting_sorted = sorted_taken.1;
    close = All-weaker _ _ (λ c close. (All-taken (IsNoLaterThanNext c) b begun waiting begun_left waiting_left taken close).1)
        begun_left (All-begun_taken (λ c. All (IsNoLaterThanNext c) (begun ++ waiting)) queues.close);
  }

  -- what was begun earlier is no later than what is left of the bundle
  close_taken : All (λ c. IsNoLaterThanNext c b) begun_left
  close_taken =
      All-weaker _ _ (λ c close. (All-taken (IsNoLaterThanNext c) b begun waiting begun_left waiting_left taken close).0)
      begun_left (All-begun_taken (λ c. All (IsNoLaterThanNext c) (begun ++ waiting)) queues.close)

All-insert : (P : Bundle → Type 0) (c : Bundle) (xs ys : List Bundle) → P c → All P (xs ++ ys) → All P ((xs ++ c ∷ []) ++ ys)
All-insert P c xs ys here all = All-append P (xs ++ c ∷ []) ys (All-push P xs c (All-left P xs ys all) here) (All-right P xs ys all)

-- the first triple of a bundle that lost its own
abbrev next_of : Bundle → Triple
next_of b = triple_at (b.from + 1) b.last b.template

next_later : (b : Bundle) → ¬ (Precedes (next_of b) (first_of b))
next_later b = λ h. omega (arith, h)

IsNoLaterThanNext-from_first : (b c : Bundle) → IsNoLater b c → IsNoLaterThanNext b c
IsNoLaterThanNext-from_first b c h = no_later_trans (first_of b) (first_of c) (next_of c) h (next_later c)

-- a step of both
IsNoLaterThanNext-moved : (b c : Bundle) → IsNoLater b c → IsNoLaterThanNext (moved (b.from + 1) b) c
IsNoLaterThanNext-moved b c h = λ later. h (back later) where
  back : Precedes (next_of c) (next_of b) → Precedes (first_of c) (first_of b)
  back (inl less) = inl (omega arith)
  back (inr (same, others)) = inr (omega arith, others)

-- a bundle goes to the end of the queue of those that were begun
AreQueues-push : (c : Bundle) (begun waiting : List Bundle) → AreQueues begun waiting → c.from ≤ c.to
    → ((t : Triple) → count_of t ((begun ++ c ∷ []) ++ waiting) ≤ 1) → All (λ b. IsNoLater b c) begun
    → All (IsNoLaterThanNext c) (begun ++ waiting) → AreQueues (begun ++ c ∷ []) waiting
AreQueues-push c begun waiting queues filled once late close = record {
  filled = All-insert (λ b. b.from ≤ b.to) c begun waiting filled queues.filled;
  once = once;
  begun_sorted = all_pairs_push IsNoLater begun c queues.begun_sorted late;
  waiting_sorted = queues.waiting_sorted;
  close =
      let Close : Bundle → Type 0 = λ b. All (IsNoLaterThanNext b) ((begun ++ c ∷ []) ++ waiting) in
      let others : All Close begun = λ k d within.
      All-insert (IsNoLaterThanNext (get_or begun k d)) c begun waiting (IsNoLaterThanNext-from_first (get_or begun k d) c (late k d within))
      (queues.close k d within) in
      All-push Close begun c others (All-insert (IsNoLaterThanNext c) c begun waiting (next_later c) close);
}

module _ (b : Bundle) (begun waiting begun_left waiting_left : List Bundle) (taken : IsTaken b begun waiting begun_left waiting_left)
    (first : All (IsNoLater b) (begun_left ++ waiting_left)) (queues : AreQueues begun waiting) where
  filled_taken : b.from ≤ b.to
  filled_taken = (All-taken (λ c. c.from ≤ c.to) b begun waiting begun_left waiting_left taken queues.filled).0

  once_taken : (t : Triple) → count_of t (b ∷ (begun_left ++ waiting_left)) ≤ 1
  once_taken t = omega (arith, queues.once t, count-taken b begun waiting begun_left waiting_left taken t)

  count-put_back : (t : Triple) (o : List Bundle)
      → count_of t (o ++ (begun_left ++ waiting_left)) ≡ count_of t ((begun_left ++ o) ++ waiting_left)
  count-put_back t o =
      omega (
        arith,
        count-append t o (begun_left ++ waiting_left),
        count-append t begun_left waiting_left,
        count-append t (begun_left ++ o) waiting_left,
        count-append t begun_left o,
      )

  -- The bundle that was taken goes to the end of the first queue without its first triple, if it has others.
  pub AreQueues-step : AreQueues (begun_left ++ option_to_list (others_of b)) waiting_left
  AreQueues-step =
      let left : AreQueues begun_left waiting_left = AreQueues-taken b begun waiting begun_left waiting_left taken queues in
      elim (part_cases (b.from + 1) b) [
        | inr (past, is) ↦
            subst (λ o. AreQueues (begun_left ++ option_to_list o) waiting_left) (sym is)
            (subst (λ bs. AreQueues bs waiting_left) (sym (append-nil begun_left)) left)
        | inl (within, is) ↦
            let c : Bundle = moved (b.from + 1) b in
            let once : (t : Triple) → count_of t ((begun_left ++ c ∷ []) ++ waiting_left) ≤ 1 = λ t.
            omega (
              arith,
              count-put_back t (c ∷ []),
              count-append t (c ∷ []) (begun_left ++ waiting_left),
              subst (λ o. count_of t (option_to_list o) ≤ one_of t b) is (count-part (b.from + 1) b t (omega arith)),
              count-cons t b (begun_left ++ waiting_left),
              once_taken t,
            ) in
            subst (λ o. AreQueues (begun_left ++ option_to_list o) waiting_left) (sym is)
            (AreQueues-push c begun_left waiting_left left within once (close_taken b begun waiting begun_left waiting_left taken queues)
            (All-weaker (IsNoLater b) (IsNoLaterThanNext c) (λ d h. IsNoLaterThanNext-moved b d h) (begun_left ++ waiting_left) first))
      ]

  -- Its first triple is given.
  pub all_triples-step : all_triples (begun ++ waiting) ≡ first_of b ∷ all_triples ((begun_left ++ option_to_list (others_of b)) ++ waiting_left)
  all_triples-step =
      all_triples-same (begun ++ waiting) (b ∷ (begun_left ++ waiting_left)) (count-taken b begun waiting begun_left waiting_left taken)
      ∙ (all_triples-first b (begun_left ++ waiting_left) filled_taken once_taken first
      ∙ ap (λ ts. first_of b ∷ ts)
      (all_triples-same (option_to_list (others_of b) ++ (begun_left ++ waiting_left)) ((begun_left ++ option_to_list (others_of b)) ++ waiting_left)
      (λ t. count-put_back t (option_to_list (others_of b)))))

pub all_triples-nil : all_triples [] ≡ []
unfolding all_triples
all_triples-nil = refl
