-- Going back over tidy words of a number of letters and blanks from the numbers of a span, from the greatest down.
use Rattle.std.proofs.Common.{◌≡◌, ◌⊎◌, ◌↔◌, ℕ, suc, ◌<◌, ◌≤◌, List, [], ◌∷◌, ◌++◌, Contains, Option, None, Result, Ok, Err, IfOk, refl, sym, ap, ◌∙◌, subst, arith, inl, inr, le_of_eq, append_assoc, append-nil}
use Rattle.std.proofs.lemmas.Bool.{cases_lt}
use Rattle.std.proofs.lemmas.List.Elements.{Contains-push}
use Rattle.lic_words.specs.Words.{Word}
use Rattle.lic_tokens.specs.Tokens.{TokenValue}
use Rattle.lic_places.specs.Places.{AreTexts}
use Rattle.lic_places.specs.Reads.{Reads}
use Rattle.lic_spans.specs.Spans.{Holds}
use Rattle.lic_spans.specs.declared.span.SpanKind.TheVariants.{Letters}
use Rattle.lic_spans.specs.declared.span.PlaceSpan.{PlaceSpan}
use Rattle.lic_view.specs.Backward.{AddsBack, Beats, IsBack, IsBackFrom, Keeps}
use Rattle.lic_view.specs.PlaceSets.{ArePlaced, IsPlaceOf, Reaches}
use Rattle.lic_view.proofs.Back.{back-both, back-either, back-keeps, back-nothing, back-same, back-stay}
use Rattle.lic_view.proofs.BlankLemmas.{held}
use Rattle.lic_view.proofs.CountPlaces.{place-order, place-same}
use Rattle.lic_view.proofs.CountReads.{counted-reads}
use Rattle.lic_reverse.proofs.CountSpans.{IsAt, letters_before}
use Rattle.lic_reverse.proofs.CountWords.{Counted, counted-from_none, counted-sound}
use Rattle.lic_view.proofs.ViewSpans.{Holds-one}
use Rattle.lic_view.specs.declared.sets.keep.Keep.{Keep}

-- the place of some number of the span, from this one on
pub record IsFromNumber (tokens : List TokenValue) (span : PlaceSpan) (from q last : ℕ) : Type 0 where
  pub number : ℕ
  pub low : from ≤ number
  pub high : number ≤ span.high
  pub place : IsPlaceOf tokens span.kind number q
  pub last_is : last ≡ span.last

-- the place of a number
abbrev pub IsOfNumber : List TokenValue → PlaceSpan → ℕ → ℕ → ℕ → Type 0
IsOfNumber tokens span number q last = IsPlaceOf tokens span.kind number q × (last ≡ span.last)

pub number-at : (tokens : List TokenValue) (span : PlaceSpan) (number q : ℕ) → IsPlaceOf tokens span.kind number q
    → IsAt (IsOfNumber tokens span number) q span.last
number-at tokens span number q place = λ r l ends. (place-same tokens span.kind number r q ends.0 place, ends.1)

pub back-none_yet : (keep : Keep) (tokens : List TokenValue) (P : Word → Type 0) (span : PlaceSpan) (n : ℕ) → span.high < n
    → IsBackFrom keep tokens P (IsFromNumber tokens span n) []
back-none_yet keep tokens P span n past =
    back-nothing keep tokens P (IsFromNumber tokens span n)
    (λ p q last w ends is reads. let low : n ≤ ends.number = ends.low in let high : ends.number ≤ span.high = ends.high in omega arith)

same_words : (P : Word → Type 0) (w : Word) → P w ↔ P w
same_words P w = (λ h. h, λ h. h)

pub back-one_more : (keep : Keep) (tokens : List TokenValue) (P : Word → Type 0) (span : PlaceSpan) (n : ℕ) (xs ys : List PlaceSpan) → n ≤ span.high
    → IsBackFrom keep tokens P (IsFromNumber tokens span (suc n)) xs → IsBackFrom keep tokens P (IsOfNumber tokens span n) ys
    → IsBackFrom keep tokens P (IsFromNumber tokens span n) (xs ++ ys)
back-one_more keep tokens P span n xs ys high more here =
    back-same keep tokens P P
    (λ q last. IsFromNumber tokens span (suc n) q last ⊎ IsOfNumber tokens span n q last) (IsFromNumber tokens span n) (xs ++ ys)
    (same_words P) (λ q last. (either q last, part q last))
    (back-both keep tokens P (IsFromNumber tokens span (suc n)) (IsOfNumber tokens span n) xs ys more here)
  where
    either : (q last : ℕ) → IsFromNumber tokens span (suc n) q last ⊎ IsOfNumber tokens span n q last → IsFromNumber tokens span n q last
    either q last (inl h) =
        let low : suc n ≤ h.number = h.low in
        record { number = h.number; low = omega arith; high = h.high; place = h.place; last_is = h.last_is }
    either q last (inr h) = record { number = n; low = omega arith; high = high; place = h.0; last_is = h.1 }

    part : (q last : ℕ) → IsFromNumber tokens span n q last → IsFromNumber tokens span (suc n) q last ⊎ IsOfNumber tokens span n q last
    part q last h = by_number (cases_lt n h.number)
      where
        by_number : (n < h.number) ⊎ (h.number ≤ n) → IsFromNumber tokens span (suc n) q last ⊎ IsOfNumber tokens span n q last
        by_number (inl later) = inl (record { number = h.number; low = omega arith; high = h.high; place = h.place; last_is = h.last_is })
        by_number (inr none) =
            let low : n ≤ h.number = h.low in
            let same : h.number ≡ n = omega arith in
            inr (subst (λ k. IsPlaceOf tokens span.kind k q) same h.place, h.last_is)

-- once all numbers are done
pub back-span : (keep : Keep) (tokens : List TokenValue) (P : Word → Type 0) (span : PlaceSpan) (xs : List PlaceSpan)
    → IsBackFrom keep tokens P (IsFromNumber tokens span span.low) xs → IsBack keep tokens P (span ∷ []) xs
back-span keep tokens P span xs back =
    back-same keep tokens P P (IsFromNumber tokens span span.low) (Reaches tokens (span ∷ [])) xs
    (same_words P) (λ q last. (reached q last, number_of q last)) back
  where
    reached : (q last : ℕ) → IsFromNumber tokens span span.low q last → Reaches tokens (span ∷ []) q last
    reached q last h = record {
      kind = span.kind;
      number = h.number;
      holds = subst (λ l. Holds (span ∷ []) span.kind h.number l) (sym h.last_is) (Holds-one span h.number h.low h.high);
      place = h.place;
    }

    number_of : (q last : ℕ) → Reaches tokens (span ∷ []) q last → IsFromNumber tokens span span.low q last
    number_of q last h =
        let one = held span h.kind h.number last h.holds in
        record {
          number = h.number;
          low = one.1;
          high = one.2;
          place = subst (λ k. IsPlaceOf tokens k h.number q) (sym one.0) h.place;
          last_is = sym one.3;
        }

-- without an end, from the greatest place on one comes to all that the lesser ones lead to
pub back-widest : (keep : Keep) (tokens : List TokenValue) (span : PlaceSpan) (n q : ℕ) (xs : List PlaceSpan) → span.low ≤ n
    → IsPlaceOf tokens span.kind n q → Contains xs (letters_before q span.last)
    → IsBackFrom keep tokens (Counted 1 None) (IsFromNumber tokens span n) xs
    → IsBackFrom keep tokens (Counted 1 None) (IsFromNumber tokens span span.low) xs
back-widest keep tokens span n q xs low place among back = record {
  placed = back.placed;
  sound = λ p last reached.
      let (r, ends, w, is, reads) = back.sound p last reached in
      let from : n ≤ ends.number = ends.low in
      (r, record { number = ends.number; low = omega arith; high = ends.high; place = ends.place; last_is = ends.last_is }, w, is, reads);
  complete = λ p r last w ends is reads. by_number p r last w ends is reads (cases_lt ends.number n);
}
  where
    by_number : (p r last : ℕ) (w : Word) (ends : IsFromNumber tokens span span.low r last) → Counted 1 None w → Reads tokens p w r
        → (ends.number < n) ⊎ (n ≤ ends.number) → (other : ℕ) × Beats keep tokens p other last × Reaches tokens xs p other
    by_number p r last w ends is reads (inr from) =
        back.complete p r last w (record { number = ends.number; low = from; high = ends.high; place = ends.place; last_is = ends.last_is }) is reads
    by_number p r last w ends is reads (inl before) =
        let word = counted-sound 1 None w is in
        let free = counted-reads tokens w p r word.tidied word.least reads in
        let below : r ≤ q = place-order tokens span.kind ends.number n r q ends.place place before in
        let front : p < r = free.before in
        let beats : Beats keep tokens p span.last last = record { least = le_of_eq (sym ends.last_is); taken = λ _. sym ends.last_is; each = λ _. sym ends.last_is } in
        let holds : Holds xs Letters p span.last =
        record { span = letters_before q span.last; among = among; kind_is = refl; from = omega arith; to = omega arith; last_is = refl } in
        (span.last, beats, record { kind = Letters; number = p; holds = holds; place = (refl, free.begins) })

-- ---- what a loop over the numbers of a span has added, from the greatest down

pub record AddsFrom (keep : Keep) (tokens : List TokenValue) (span : PlaceSpan) (from : ℕ) (old new : List PlaceSpan) : Type 0 where
  pub more : List PlaceSpan
  pub added : new ≡ old ++ more
  pub back : IsBackFrom keep tokens (Counted 1 None) (IsFromNumber tokens span from) more

pub adds-nothing : (keep : Keep) (tokens : List TokenValue) (span : PlaceSpan) (n : ℕ) (old : List PlaceSpan) → span.high < n
    → AddsFrom keep tokens span n old old
adds-nothing keep tokens span n old past =
    record { more = []; added = sym (append-nil old); back = back-none_yet keep tokens (Counted 1 None) span n past }

pub adds-more : (keep : Keep) (tokens : List TokenValue) (span : PlaceSpan) (m n : ℕ) (old new newer xs : List PlaceSpan) → m ≡ suc n
    → n ≤ span.high → AddsFrom keep tokens span m old new → IsBackFrom keep tokens (Counted 1 None) (IsOfNumber tokens span n) xs
    → newer ≡ new ++ xs → AddsFrom keep tokens span n old newer
adds-more keep tokens span m n old new newer xs next high adds here grown = record {
  more = adds.more ++ xs;
  added = grown ∙ ap (λ l. l ++ xs) adds.added ∙ append_assoc old adds.more xs;
  back = back-one_more keep tokens (Counted 1 None) span n adds.more xs high
      (subst (λ k. IsBackFrom keep tokens (Counted 1 None) (IsFromNumber tokens span k) adds.more) next adds.back) here;
}

pub adds-all : (keep : Keep) (tokens : List TokenValue) (span : PlaceSpan) (n : ℕ) (old new : List PlaceSpan) → n ≡ span.low
    → AddsFrom keep tokens span n old new → AddsBack keep tokens (Counted 1 None) span old new
adds-all keep tokens span n old new low adds = record {
  more = adds.more;
  added = adds.added;
  back = back-span keep tokens (Counted 1 None) span adds.more
      (subst (λ k. IsBackFrom keep tokens (Counted 1 None) (IsFromNumber tokens span k) adds.more) low adds.back);
}

-- without an end the first that lead anywhere are enough
pub adds-widest : (keep : Keep) (tokens : List TokenValue) (span letters : PlaceSpan) (m n q : ℕ) (old new newer : List PlaceSpan)
    → m ≡ suc n → span.low ≤ n → n ≤ span.high → IsPlaceOf tokens span.kind n q → letters ≡ letters_before q span.last
    → AddsFrom keep tokens span m old new → IsBackFrom keep tokens (Counted 1 None) (IsOfNumber tokens span n) (letters ∷ [])
    → newer ≡ new ++ letters ∷ [] → AddsBack keep tokens (Counted 1 None) span old newer
adds-widest keep tokens span letters m n q old new newer next low high place is adds here grown =
    let more = adds.more ++ letters ∷ [] in
    let whole : IsBackFrom keep tokens (Counted 1 None) (IsFromNumber tokens span n) (adds.more ++ letters ∷ []) =
    back-one_more keep tokens (Counted 1 None) span n adds.more (letters ∷ []) high
    (subst (λ k. IsBackFrom keep tokens (Counted 1 None) (IsFromNumber tokens span k) adds.more) next adds.back) here in
    let among = subst (Contains more) is (Contains-push adds.more letters) in
    let widest = back-widest keep tokens span n q more low place among whole in
    record {
      more = more;
      added = grown ∙ ap (λ l. l ++ letters ∷ []) adds.added ∙ append_assoc old adds.more (letters ∷ []);
      back = back-span keep tokens (Counted 1 None) span more widest;
    }

-- the empty word too
pub back-from_none : (keep : Keep) (tokens : List TokenValue) (max : Option ℕ) (xs found : List PlaceSpan) → ArePlaced tokens xs
    → IsBack keep tokens (Counted 1 max) xs found → IsBack keep tokens (Counted 0 max) xs (xs ++ found)
back-from_none keep tokens max xs found placed back =
    back-same keep tokens (λ w. (w ≡ []) ⊎ Counted 1 max w) (Counted 0 max) (Reaches tokens xs) (Reaches tokens xs) (xs ++ found)
    words (λ q last. (λ h. h, λ h. h))
    (back-either keep tokens (λ w. w ≡ []) (Counted 1 max) (Reaches tokens xs) xs found (back-stay keep tokens xs placed) back)
  where
    turned : {A B : Type 0} → A ⊎ B → B ⊎ A
    turned (inl a) = inr a
    turned (inr b) = inl b

    words : (w : Word) → ((w ≡ []) ⊎ Counted 1 max w) ↔ Counted 0 max w
    words w = (λ h. (counted-from_none max w).0 (turned h), λ h. turned ((counted-from_none max w).1 h))

-- each place with those last tokens that are kept, unless the search stops
pub back-kept_of : (keep : Keep) {A E : Type 0} (items : A → List PlaceSpan) (tokens : List TokenValue) (P : Word → Type 0) (Ends : ℕ → ℕ → Type 0)
    (xs : List PlaceSpan) (r : Result A E) → AreTexts tokens → IsBackFrom keep tokens P Ends xs → IfOk r (λ v. Keeps keep xs (items v))
    → IfOk r (λ v. IsBackFrom keep tokens P Ends (items v))
back-kept_of keep items tokens P Ends xs (Ok v) texts back kept = back-keeps keep tokens P Ends xs (items v) texts back kept
back-kept_of keep items tokens P Ends xs (Err e) texts back kept = tt
