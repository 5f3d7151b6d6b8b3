-- Spans in the order of kinds, last tokens and places, and which of them are apart.
use Rattle.std.proofs.Common.{◌≡◌, ℕ, ◌+◌, ◌<◌, ◌≤◌, true, false, Bool, if◌then◌else◌, List, [], ◌∷◌, ◌++◌, length, get_or, take, set, refl, sym, ◌∙◌, ap, subst, ⊎_elim, arith}
use Rattle.std.proofs.lemmas.Bool.Decides.{nat_tests}
use Rattle.std.proofs.lemmas.Cmp.{nat_cmp_total, on_total, then_total}
use Rattle.std.proofs.lemmas.List.Elements.{All-contains, All-nil, All-push, Contains-push}
use Rattle.std.proofs.lemmas.List.Quantifiers.{all_pairs_push}
use Rattle.std.proofs.lemmas.List.Sorted.{ranks_by, sorted_far}
use Rattle.std.specs.Cmp.{IsTotalOrder}
use Rattle.std.specs.List.{All, AllPairs}
use Rattle.std.specs.List.Sorted.{IsSortedBy}
use Rattle.std.specs.Ordering.{nat_cmp, is_lt, ordering_then}
use Rattle.std.specs.declared.cmp.Ordering.{Ordering}
use Rattle.std.specs.declared.cmp.Ordering.TheVariants.{Less, Equal, Greater}
use Rattle.lic_spans.specs.declared.span.PlaceSpan.{PlaceSpan}
use Rattle.lic_spans.specs.Spans.{AreBefore, EndsBefore, StartsBefore, is_continued_by, lengthened, rank}
use Rattle.lic_spans.proofs.Ranks.{rank-same}
use Rattle.lic_spans.proofs.Settling.{All-front, AllPairs-front, last_set, last_split, pair_last}
use Rattle.lic_spans.proofs.Sorting.{not_less, not_less_last}

-- by kind, then by last token, then by low place
abbrev pub by_last : PlaceSpan → PlaceSpan → Ordering
by_last x y = ordering_then (ordering_then (nat_cmp (rank x.kind) (rank y.kind)) (nat_cmp x.last y.last)) (nat_cmp x.low y.low)

by_last-total : IsTotalOrder by_last
by_last-total = then_total (then_total (on_total (λ s. rank s.kind) nat_cmp_total) (on_total (λ s. s.last) nat_cmp_total)) (on_total (λ s. s.low) nat_cmp_total)

then_assoc : (o p q : Ordering) → ordering_then (ordering_then o p) q ≡ ordering_then o (ordering_then p q)
then_assoc Less p q = refl
then_assoc Equal p q = refl
then_assoc Greater p q = refl

StartsBefore-by_last : (s t : PlaceSpan) → is_lt (by_last t s) ≡ false → StartsBefore s t
StartsBefore-by_last s t h =
    ⊎_elim
    (λ (up : rank s.kind < rank t.kind). record {
      kinds = omega arith;
      lasts = λ same. let e : rank s.kind ≡ rank t.kind = ap rank same in absurd (omega arith);
      places = λ same last. let e : rank s.kind ≡ rank t.kind = ap rank same in absurd (omega arith);
    })
    (λ (e, more). by_token e more)
    (not_less (rank t.kind) (rank s.kind) (ordering_then (nat_cmp t.last s.last) (nat_cmp t.low s.low))
    (subst (λ o. is_lt o ≡ false) (then_assoc (nat_cmp (rank t.kind) (rank s.kind)) (nat_cmp t.last s.last) (nat_cmp t.low s.low)) h))
  where
    by_token : rank t.kind ≡ rank s.kind → is_lt (ordering_then (nat_cmp t.last s.last) (nat_cmp t.low s.low)) ≡ false → StartsBefore s t
    by_token e more =
        ⊎_elim
        (λ (up : s.last < t.last). record { kinds = omega (arith, e); lasts = λ same. omega arith; places = λ same last. absurd (omega (arith, last)) })
        (λ (token, place).
        let last : t.last ≡ s.last = token in
        let low : s.low ≤ t.low = not_less_last t.low s.low place in
        record { kinds = omega (arith, e); lasts = λ same. omega arith; places = λ same l. low })
        (not_less t.last s.last (nat_cmp t.low s.low) more)

pub StartsBefore-sorted : (xs : List PlaceSpan) → IsSortedBy (λ x y. is_lt (by_last x y)) xs → AllPairs StartsBefore xs
StartsBefore-sorted xs sorted = λ i j d before low.
    StartsBefore-by_last (get_or xs i d) (get_or xs j d)
    (sorted_far (λ x y. is_lt (by_last x y)) (ranks_by by_last-total (λ x. x)) xs sorted i j d (omega arith) low)

pub StartsBefore-itself : (s : PlaceSpan) → StartsBefore s s
StartsBefore-itself s = record { kinds = omega arith; lasts = λ same. omega arith; places = λ same last. omega arith }

-- kinds in order, of which the first and the last are one
kind-between : (a b c : PlaceSpan) → rank a.kind ≤ rank b.kind → rank b.kind ≤ rank c.kind → a.kind ≡ c.kind → (a.kind ≡ b.kind) × (b.kind ≡ c.kind)
kind-between a b c one other same =
    let e : rank a.kind ≡ rank c.kind = ap rank same in
    (rank-same a.kind b.kind (omega arith), rank-same b.kind c.kind (omega arith))

pub StartsBefore-through : (a b c : PlaceSpan) → StartsBefore a b → StartsBefore b c → StartsBefore a c
StartsBefore-through a b c one other = record {
  kinds = omega (arith, one.kinds, other.kinds);
  lasts = λ same. let (first, second) = kind-between a b c one.kinds other.kinds same in omega (arith, one.lasts first, other.lasts second);
  places = λ same last.
      let (first, second) = kind-between a b c one.kinds other.kinds same in
      let up : a.last ≤ b.last = one.lasts first in
      let on : b.last ≤ c.last = other.lasts second in
      omega (arith, one.places first (omega arith), other.places second (omega arith));
}

EndsBefore-through : (a b c : PlaceSpan) → EndsBefore a b → StartsBefore b c → EndsBefore a c
EndsBefore-through a b c one other = record {
  kinds = omega (arith, one.kinds, other.kinds);
  lasts = λ same. let (first, second) = kind-between a b c one.kinds other.kinds same in omega (arith, one.lasts first, other.lasts second);
  places = λ same last.
      let (first, second) = kind-between a b c one.kinds other.kinds same in
      let up : a.last ≤ b.last = one.lasts first in
      let on : b.last ≤ c.last = other.lasts second in
      omega (arith, one.places first (omega arith), other.places second (omega arith));
}

-- a span that starts before another and is not continued by it ends before it
EndsBefore-not_continued : (b s : PlaceSpan) → StartsBefore b s → is_continued_by b s ≡ false → EndsBefore b s
EndsBefore-not_continued b s start none = record {
  kinds = start.kinds;
  lasts = start.lasts;
  places = λ same last.
      let kind : rank b.kind ≡ rank s.kind = ap rank same in
      let low : b.low ≤ s.low = start.places same last in
      grind (arith, nat_tests);
}

-- the spans are before a later one too
pub AreBefore-later : (xs : List PlaceSpan) (s t : PlaceSpan) → StartsBefore s t → AreBefore xs s → AreBefore xs t
AreBefore-later xs s t on before = record {
  apart = before.apart;
  start = λ k d low. StartsBefore-through (get_or xs k d) s t (before.start k d low) on;
}

-- a span more, where there are none yet
pub AreBefore-first : (s : PlaceSpan) → AreBefore (s ∷ []) s
AreBefore-first s = record {
  apart = λ i j d up low. absurd (omega arith);
  start = All-push (λ t. StartsBefore t s) [] s (All-nil (λ t. StartsBefore t s)) (StartsBefore-itself s);
}

-- a span more that does not continue the last one
AreBefore-push : (xs : List PlaceSpan) (b s : PlaceSpan) → is_continued_by b s ≡ false → AreBefore (xs ++ b ∷ []) s → AreBefore ((xs ++ b ∷ []) ++ s ∷ []) s
AreBefore-push xs b s none before =
    let ys : List PlaceSpan = xs ++ b ∷ [] in
    let start : StartsBefore b s = All-contains (λ t. StartsBefore t s) ys b before.start (Contains-push xs b) in
    let last : EndsBefore b s = EndsBefore-not_continued b s start none in
    let first : All (λ t. EndsBefore t s) xs = λ k d low. EndsBefore-through (get_or xs k d) b s (pair_last EndsBefore xs b before.apart k d low) start in
    record {
      apart = all_pairs_push EndsBefore ys s before.apart (All-push (λ t. EndsBefore t s) xs b first last);
      start = All-push (λ t. StartsBefore t s) ys s before.start (StartsBefore-itself s);
    }

-- the last span made longer
AreBefore-lengthened : (xs : List PlaceSpan) (b s : PlaceSpan) → AreBefore (xs ++ b ∷ []) s → AreBefore (xs ++ lengthened b s.high ∷ []) s
AreBefore-lengthened xs b s before =
    let start : StartsBefore b s = All-contains (λ t. StartsBefore t s) (xs ++ b ∷ []) b before.start (Contains-push xs b) in
    record {
      apart = all_pairs_push EndsBefore xs (lengthened b s.high) (AllPairs-front EndsBefore xs b before.apart)
          (λ k d low. let pair = pair_last EndsBefore xs b before.apart k d low in record { kinds = pair.kinds; lasts = pair.lasts; places = pair.places });
      start = All-push (λ t. StartsBefore t s) xs (lengthened b s.high) (All-front (λ t. StartsBefore t s) xs b before.start)
          (record { kinds = start.kinds; lasts = start.lasts; places = start.places });
    }

-- the same in the form in which code writes it
module _ (xs : List PlaceSpan) (n : ℕ) (b b' s : PlaceSpan) (r : Bool) (e : n + 1 ≡ length xs) (is_last : b ≡ get_or xs n b)
    (answer : r ≡ is_continued_by b s) (longer : b' ≡ (if r then lengthened b s.high else b)) where
  split : xs ≡ take n xs ++ b ∷ []
  split = last_split xs n b e ∙ ap (λ x. take n xs ++ x ∷ []) (sym is_last)

  pub AreBefore-joined_last : r ≡ true → AreBefore xs s → AreBefore (set xs n b') s
  AreBefore-joined_last joined before =
      let now : b' ≡ lengthened b s.high = longer ∙ ap (λ t. if t then lengthened b s.high else b) joined in
      let written : set xs n b' ≡ take n xs ++ lengthened b s.high ∷ [] = last_set xs n b' e ∙ ap (λ x. take n xs ++ x ∷ []) now in
      subst (λ ys. AreBefore ys s) (sym written) (AreBefore-lengthened (take n xs) b s (subst (λ ys. AreBefore ys s) split before))

  pub AreBefore-not_joined : r ≡ false → AreBefore xs s → AreBefore (xs ++ s ∷ []) s
  AreBefore-not_joined alone before =
      subst (λ ys. AreBefore (ys ++ s ∷ []) s) (sym split)
      (AreBefore-push (take n xs) b s (sym answer ∙ alone) (subst (λ ys. AreBefore ys s) split before))

-- a list that has a last one is not empty
pub empty_list : (xs : List PlaceSpan) → length xs ≤ 0 → xs ≡ []
empty_list [] none = refl
empty_list (x ∷ xs) none = absurd (omega arith)
