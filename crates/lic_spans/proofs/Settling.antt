-- A span that goes to the end of a list, alone or joined with the last one there.
use Rattle.std.proofs.Common.{◌≡◌, ◌↔◌, true, false, Bool, if◌then◌else◌, ℕ, ◌+◌, ◌<◌, ◌≤◌, max, ◌⊎◌, List, [], ◌∷◌, ◌++◌, length, get_or, take, set, sym, ◌∙◌, ap, subst, inl, inr, ⊎_elim, arith}
use Rattle.std.proofs.lemmas.List.Elements.{All-set, All-push, All-weaker, All-contains, Contains-push, Contains-append_left}
use Rattle.std.proofs.lemmas.List.Quantifiers.{all_pairs_push}
use Rattle.std.proofs.Math.ListN.{get_or-append}
use Rattle.std.proofs.Math.Seq.{get_or-append_seam, take-length}
use Rattle.std.proofs.lemmas.List.{length-append, length-set, set-get_or, take_more, take_more_set}
use Rattle.std.specs.List.{All, AllPairs, Contains}
use Rattle.lic_spans.specs.declared.span.SpanKind.{SpanKind}
use Rattle.lic_spans.specs.declared.span.SpanKind.TheVariants.{End, Place, Letters, Blanks}
use Rattle.lic_spans.specs.declared.span.PlaceSpan.{PlaceSpan}
use Rattle.lic_spans.specs.Spans.{Holds, LiesBefore, is_continued_by, lengthened, rank, gap_of, FitsKind}
use Rattle.lic_spans.specs.Sweeps.{IsSettled}
use Rattle.std.proofs.lemmas.Bool.{cases_lt}
use Rattle.std.proofs.lemmas.Bool.Decides.{nat_tests}
use Rattle.lic_spans.proofs.Ranks.{rank-same}
use Rattle.lic_spans.proofs.Members.{Holds-left, Holds-right, Holds-append_cases, Holds-single, HasPlace-single, HasPlace}

-- what is known of a list that ends with b is known of its front
module _ {X : Type 0} where
  front-get_or : (xs : List X) (b : X) (k : ℕ) (d : X) → k < length xs → get_or (xs ++ b ∷ []) k d ≡ get_or xs k d
  front-get_or xs b k d low = get_or-append xs (b ∷ []) d k low

  pub All-front : (P : X → Type 0) (xs : List X) (b : X) → All P (xs ++ b ∷ []) → All P xs
  All-front P xs b all = λ k d low. subst P (front-get_or xs b k d low) (all k d (omega (arith, length-append xs (b ∷ []))))

  pub AllPairs-front : (R : X → X → Type 0) (xs : List X) (b : X) → AllPairs R (xs ++ b ∷ []) → AllPairs R xs
  AllPairs-front R xs b pairs = λ i j d before low.
      subst (R (get_or xs i d)) (front-get_or xs b j d low)
      (subst (λ x. R x (get_or (xs ++ b ∷ []) j d)) (front-get_or xs b i d (omega arith)) (pairs i j d before (omega (arith, length-append xs (b ∷ [])))))

  -- each of the front comes before b
  pub pair_last : (R : X → X → Type 0) (xs : List X) (b : X) → AllPairs R (xs ++ b ∷ []) → (k : ℕ) (d : X) → k < length xs → R (get_or xs k d) b
  pair_last R xs b pairs k d low =
      subst (R (get_or xs k d)) (get_or-append_seam xs b [] d)
      (subst (λ x. R x (get_or (xs ++ b ∷ []) (length xs) d)) (front-get_or xs b k d low) (pairs k (length xs) d low (omega (arith, length-append xs (b ∷ [])))))

-- what lies before a place lies before a later one
pub LiesBefore-later : (kind : SpanKind) (at to : ℕ) → at ≤ to → (s : PlaceSpan) → LiesBefore kind at s → LiesBefore kind to s
LiesBefore-later kind at to onward s h = record {
  kinds = h.kinds;
  places = λ e. let low : s.high < at = h.places e in omega arith;
}

pub IsSettled-later : (xs : List PlaceSpan) (kind : SpanKind) (at to : ℕ) → at ≤ to → IsSettled xs kind at → IsSettled xs kind to
IsSettled-later xs kind at to onward h = record {
  apart = h.apart;
  before = All-weaker (LiesBefore kind at) (LiesBefore kind to) (LiesBefore-later kind at to onward) xs h.before;
  ordered = h.ordered;
}

-- a span more
pub IsSettled-push : (xs : List PlaceSpan) (s : PlaceSpan) → s.low ≤ s.high → IsSettled xs s.kind s.low → IsSettled (xs ++ s ∷ []) s.kind (s.high + 1)
IsSettled-push xs s order h = record {
  apart = all_pairs_push (λ before span. LiesBefore span.kind span.low before) xs s h.apart (λ k d low. h.before k d low);
  before = All-push (LiesBefore s.kind (s.high + 1)) xs s
      (IsSettled-later xs s.kind s.low (s.high + 1) (omega arith) h).before
      (record { kinds = omega arith; places = λ _. omega arith });
  ordered = All-push (λ t. t.low ≤ t.high) xs s h.ordered order;
}

pub Holds-push : (xs : List PlaceSpan) (s : PlaceSpan) (k : SpanKind) (p l : ℕ) → Holds (xs ++ s ∷ []) k p l ↔ (Holds xs k p l ⊎ Holds (s ∷ []) k p l)
Holds-push xs s k p l = (Holds-append_cases xs (s ∷ []) k p l, λ h. ⊎_elim (Holds-left xs (s ∷ []) k p l) (Holds-right xs (s ∷ []) k p l) h)

-- the span has the kind and the last token of the other, and begins within it or next after it
pub record IsContinued (before span : PlaceSpan) : Type 0 where
  pub kind : before.kind ≡ span.kind
  pub last : before.last ≡ span.last
  pub from : before.low ≤ span.low
  pub near : span.low ≤ before.high + gap_of before.kind
  pub to : span.low ≤ before.high + 1

gap_small : (k : SpanKind) → gap_of k ≤ 1
gap_small End = omega arith
gap_small Place = omega arith
gap_small Letters = omega arith
gap_small Blanks = omega arith

pub test-IsContinued : (b s : PlaceSpan) → is_continued_by b s ≡ true → IsContinued b s
test-IsContinued b s h =
    let kind : rank b.kind ≡ rank s.kind = grind (arith, nat_tests) in
    let near : s.low ≤ b.high + gap_of b.kind = grind (arith, nat_tests) in
    let small : gap_of b.kind ≤ 1 = gap_small b.kind in
    record { kind = rank-same b.kind s.kind kind; last = grind (arith, nat_tests); from = grind (arith, nat_tests); near = near; to = omega arith }

-- a single place that is joined stays single
pub FitsKind-lengthened : (b s : PlaceSpan) → IsContinued b s → FitsKind b → FitsKind s → FitsKind (lengthened b s.high)
FitsKind-lengthened b s joins first second = λ single.
    let one : b.low ≡ b.high = first single in
    let same : gap_of b.kind ≡ gap_of s.kind = ap gap_of joins.kind in
    let other : s.low ≡ s.high = second (sym same ∙ single) in
    let near : s.low ≤ b.high + gap_of b.kind = joins.near in
    let from : b.low ≤ s.low = joins.from in
    omega arith

pub HasPlace-lengthened : (b s : PlaceSpan) → IsContinued b s → (k : SpanKind) (p l : ℕ) →
    HasPlace (lengthened b s.high) k p l → HasPlace b k p l ⊎ HasPlace s k p l
HasPlace-lengthened b s joins k p l h =
    ⊎_elim
    (λ (past : b.high < p).
    let to : p ≤ max b.high s.high = h.to in
    inr (record { kind = sym joins.kind ∙ h.kind; from = omega (arith, joins.to); to = omega arith; last = sym joins.last ∙ h.last }))
    (λ within. inl (record { kind = h.kind; from = h.from; to = within; last = h.last }))
    (cases_lt b.high p)

pub HasPlace-before : (b s : PlaceSpan) (k : SpanKind) (p l : ℕ) → HasPlace b k p l → HasPlace (lengthened b s.high) k p l
HasPlace-before b s k p l h = let to : p ≤ b.high = h.to in record { kind = h.kind; from = h.from; to = omega arith; last = h.last }

pub HasPlace-more : (b s : PlaceSpan) → IsContinued b s → (k : SpanKind) (p l : ℕ) → HasPlace s k p l → HasPlace (lengthened b s.high) k p l
HasPlace-more b s joins k p l h =
    let from : s.low ≤ p = h.from in
    let to : p ≤ s.high = h.to in
    record { kind = joins.kind ∙ h.kind; from = omega (arith, joins.from); to = omega arith; last = joins.last ∙ h.last }

-- what a list holds whose last span is made longer
pub Holds-lengthened : (xs : List PlaceSpan) (b s : PlaceSpan) → IsContinued b s → (k : SpanKind) (p l : ℕ) →
    Holds (xs ++ lengthened b s.high ∷ []) k p l ↔ (Holds (xs ++ b ∷ []) k p l ⊎ Holds (s ∷ []) k p l)
Holds-lengthened xs b s joins k p l = (
  λ h. ⊎_elim (λ first. inl (Holds-left xs (b ∷ []) k p l first))
      (λ last. ⊎_elim (λ old. inl (Holds-right xs (b ∷ []) k p l (Holds-single b k p l old))) (λ more. inr (Holds-single s k p l more))
      (HasPlace-lengthened b s joins k p l (HasPlace-single (lengthened b s.high) k p l last)))
      (Holds-append_cases xs (lengthened b s.high ∷ []) k p l h),
  λ h. ⊎_elim
      (λ old. ⊎_elim (λ first. Holds-left xs (lengthened b s.high ∷ []) k p l first)
      (λ last. Holds-right xs (lengthened b s.high ∷ []) k p l
      (Holds-single (lengthened b s.high) k p l (HasPlace-before b s k p l (HasPlace-single b k p l last))))
      (Holds-append_cases xs (b ∷ []) k p l old))
      (λ more. Holds-right xs (lengthened b s.high ∷ []) k p l
      (Holds-single (lengthened b s.high) k p l (HasPlace-more b s joins k p l (HasPlace-single s k p l more)))) h,
)

IsSettled-lengthened : (xs : List PlaceSpan) (b s : PlaceSpan) → IsContinued b s → s.low ≤ s.high → IsSettled (xs ++ b ∷ []) s.kind s.low →
    IsSettled (xs ++ lengthened b s.high ∷ []) s.kind (s.high + 1)
IsSettled-lengthened xs b s joins order h =
    let same : b.kind ≡ s.kind = joins.kind in
    let end : LiesBefore s.kind s.low b = All-contains (LiesBefore s.kind s.low) (xs ++ b ∷ []) b h.before (Contains-push xs b) in
    let low : b.high < s.low = end.places same in
    let up : b.low ≤ b.high = All-contains (λ t. t.low ≤ t.high) (xs ++ b ∷ []) b h.ordered (Contains-push xs b) in
    let first : (s' : PlaceSpan) → Contains xs s' → LiesBefore s.kind s.low s' =
    λ s' among. All-contains (LiesBefore s.kind s.low) (xs ++ b ∷ []) s' h.before (Contains-append_left xs (b ∷ []) s' among) in
    record {
      apart = all_pairs_push (λ before span. LiesBefore span.kind span.low before) xs (lengthened b s.high)
          (AllPairs-front (λ before span. LiesBefore span.kind span.low before) xs b h.apart)
          (λ k d low'. pair_last (λ before span. LiesBefore span.kind span.low before) xs b h.apart k d low');
      before = All-push (LiesBefore s.kind (s.high + 1)) xs (lengthened b s.high)
          (All-weaker (LiesBefore s.kind s.low) (LiesBefore s.kind (s.high + 1)) (LiesBefore-later s.kind s.low (s.high + 1) (omega arith)) xs
          (All-front (LiesBefore s.kind s.low) xs b h.before))
          (record { kinds = end.kinds; places = λ _. omega arith });
      ordered = All-push (λ t. t.low ≤ t.high) xs (lengthened b s.high) (All-front (λ t. t.low ≤ t.high) xs b h.ordered) (omega arith);
    }

-- a list is its front and its last one, also where that one is written
pub last_split : {X : Type 0} (xs : List X) (n : ℕ) (d : X) → n + 1 ≡ length xs → xs ≡ take n xs ++ get_or xs n d ∷ []
last_split xs n d e = sym (ap (λ k. take k xs) e ∙ take-length xs) ∙ take_more xs n d (omega arith)

pub last_set : {X : Type 0} (xs : List X) (n : ℕ) (y : X) → n + 1 ≡ length xs → set xs n y ≡ take n xs ++ y ∷ []
last_set xs n y e =
    let same : n + 1 ≡ length (set xs n y) = e ∙ sym (length-set xs n y) in
    sym (ap (λ k. take k (set xs n y)) same ∙ take-length (set xs n y)) ∙ take_more_set xs n y (omega arith)

-- the last span of a list is made longer where it is
module _ (xs : List PlaceSpan) (n : ℕ) (b s : PlaceSpan) (e : n + 1 ≡ length xs) (last : b ≡ get_or xs n b) (joins : IsContinued b s) where
  is_split : xs ≡ take n xs ++ b ∷ []
  is_split = last_split xs n b e ∙ ap (λ x. take n xs ++ x ∷ []) (sym last)

  pub Holds-set_longer : (k : SpanKind) (p l : ℕ) → Holds (set xs n (lengthened b s.high)) k p l ↔ (Holds xs k p l ⊎ Holds (s ∷ []) k p l)
  Holds-set_longer k p l =
      let P : List PlaceSpan → Type 0 = λ ys. Holds ys k p l ↔ (Holds xs k p l ⊎ Holds (s ∷ []) k p l) in
      let Q : List PlaceSpan → Type 0 = λ ys. Holds (take n xs ++ lengthened b s.high ∷ []) k p l ↔ (Holds ys k p l ⊎ Holds (s ∷ []) k p l) in
      subst P (sym (last_set xs n (lengthened b s.high) e)) (subst Q (sym is_split) (Holds-lengthened (take n xs) b s joins k p l))

  pub IsSettled-set_longer : s.low ≤ s.high → IsSettled xs s.kind s.low → IsSettled (set xs n (lengthened b s.high)) s.kind (s.high + 1)
  IsSettled-set_longer order h =
      let P : List PlaceSpan → Type 0 = λ ys. IsSettled ys s.kind (s.high + 1) in
      let Q : List PlaceSpan → Type 0 = λ ys. IsSettled ys s.kind s.low in
      subst P (sym (last_set xs n (lengthened b s.high) e)) (IsSettled-lengthened (take n xs) b s joins order (subst Q is_split h))

-- the same in the form in which code writes it
module _ (xs : List PlaceSpan) (n : ℕ) (b b' s : PlaceSpan) (r : Bool) (e : n + 1 ≡ length xs) (is_last : b ≡ get_or xs n b)
    (answer : r ≡ is_continued_by b s) (longer : b' ≡ (if r then lengthened b s.high else b)) where
  written_is : r ≡ true → set xs n (lengthened b s.high) ≡ set xs n b'
  written_is joined =
      let now : b' ≡ lengthened b s.high = longer ∙ ap (λ t. if t then lengthened b s.high else b) joined in
      ap (set xs n) (sym now)

  pub Holds-joined_last : r ≡ true → (k : SpanKind) (p l : ℕ) → Holds (set xs n b') k p l ↔ (Holds xs k p l ⊎ Holds (s ∷ []) k p l)
  Holds-joined_last joined k p l =
      let P : List PlaceSpan → Type 0 = λ ys. Holds ys k p l ↔ (Holds xs k p l ⊎ Holds (s ∷ []) k p l) in
      subst P (written_is joined) (Holds-set_longer xs n b s e is_last (test-IsContinued b s (sym answer ∙ joined)) k p l)

  pub IsSettled-joined_last : s.low ≤ s.high → r ≡ true → IsSettled xs s.kind s.low → IsSettled (set xs n b') s.kind (s.high + 1)
  IsSettled-joined_last order joined h =
      let P : List PlaceSpan → Type 0 = λ ys. IsSettled ys s.kind (s.high + 1) in
      subst P (written_is joined) (IsSettled-set_longer xs n b s e is_last (test-IsContinued b s (sym answer ∙ joined)) order h)

  pub Fits-joined_last : r ≡ true → FitsKind s → All FitsKind xs → All FitsKind (set xs n b')
  Fits-joined_last joined one all =
      let now : b' ≡ lengthened b s.high = longer ∙ ap (λ t. if t then lengthened b s.high else b) joined in
      let first : FitsKind b = subst FitsKind (sym is_last) (all n b (omega arith)) in
      All-set FitsKind xs n b' (subst FitsKind (sym now) (FitsKind-lengthened b s (test-IsContinued b s (sym answer ∙ joined)) first one)) all

  -- where they are not joined, all stays
  pub not_joined_last : r ≡ false → set xs n b' ≡ xs
  not_joined_last other =
      let now : b' ≡ b = longer ∙ ap (λ t. if t then lengthened b s.high else b) other in
      ap (set xs n) (now ∙ is_last) ∙ set-get_or xs n b
