-- What lists of spans hold after a span more, and of a span alone.
use Rattle.std.proofs.Common.{◌≡◌, ℕ, ◌≤◌, zero, suc, ◌⊎◌, List, [], ◌∷◌, ◌++◌, refl, sym, subst, ◌<◌, inl, inr, ⊎_elim, arith}
use Rattle.std.proofs.lemmas.List.Elements.{Contains-append_left, Contains-append_right, Contains-append_cases}
use Rattle.std.specs.List.{Contains}
use Rattle.lic_spans.specs.declared.span.SpanKind.{SpanKind}
use Rattle.lic_spans.specs.declared.span.PlaceSpan.{PlaceSpan}
use Rattle.lic_spans.specs.Spans.{Holds}
use Rattle.lic_spans.specs.Sweeps.{HasLess}

pub Contains-nil : {A : Type 0} (x : A) → Contains [] x → ⊥
Contains-nil x (k, h, e) = omega arith

pub Contains-head : {A : Type 0} (x : A) (xs : List A) → Contains (x ∷ xs) x
Contains-head x xs = (0, omega arith, refl)

pub Contains-tail : {A : Type 0} (x : A) (xs : List A) (y : A) → Contains xs y → Contains (x ∷ xs) y
Contains-tail x xs y (k, h, e) = (suc k, omega arith, e)

-- an element of a list is its first or one of the others
pub Contains-cons_cases : {A : Type 0} (x : A) (xs : List A) (y : A) → Contains (x ∷ xs) y → (x ≡ y) ⊎ Contains xs y
Contains-cons_cases x xs y (zero, h, e) = inl e
Contains-cons_cases x xs y (suc k, h, e) = inr (k, omega arith, e)

-- a list with the members of another holds what that holds
pub Holds-among : (xs ys : List PlaceSpan) → ((s : PlaceSpan) → Contains xs s → Contains ys s) →
    (k : SpanKind) (p l : ℕ) → Holds xs k p l → Holds ys k p l
Holds-among xs ys among k p l h = record { span = h.span; among = among h.span h.among; kind_is = h.kind_is; from = h.from; to = h.to; last_is = h.last_is }

pub Holds-nil : (k : SpanKind) (p l : ℕ) → Holds [] k p l → ⊥
Holds-nil k p l h = Contains-nil h.span h.among

-- what a member has, its list holds
pub Holds-member : (xs : List PlaceSpan) (s : PlaceSpan) → Contains xs s → (p : ℕ) → s.low ≤ p → p ≤ s.high → Holds xs s.kind p s.last
Holds-member xs s among p low high = record { span = s; among = among; kind_is = refl; from = low; to = high; last_is = refl }

-- a span alone holds its places
pub record HasPlace (s : PlaceSpan) (k : SpanKind) (p l : ℕ) : Type 0 where
  pub kind : s.kind ≡ k
  pub from : s.low ≤ p
  pub to : p ≤ s.high
  pub last : s.last ≡ l

pub HasPlace-single : (s : PlaceSpan) (k : SpanKind) (p l : ℕ) → Holds (s ∷ []) k p l → HasPlace s k p l
HasPlace-single s k p l h =
    let found : HasPlace h.span k p l = record { kind = h.kind_is; from = h.from; to = h.to; last = h.last_is } in
    ⊎_elim (λ (e : s ≡ h.span). subst (λ t. HasPlace t k p l) (sym e) found) (λ none. absurd (Contains-nil h.span none)) (Contains-cons_cases s [] h.span h.among)

pub Holds-single : (s : PlaceSpan) (k : SpanKind) (p l : ℕ) → HasPlace s k p l → Holds (s ∷ []) k p l
Holds-single s k p l h = record { span = s; among = Contains-head s []; kind_is = h.kind; from = h.from; to = h.to; last_is = h.last }

pub Holds-left : (xs ys : List PlaceSpan) (k : SpanKind) (p l : ℕ) → Holds xs k p l → Holds (xs ++ ys) k p l
Holds-left xs ys k p l h = Holds-among xs (xs ++ ys) (λ s among. Contains-append_left xs ys s among) k p l h

pub Holds-right : (xs ys : List PlaceSpan) (k : SpanKind) (p l : ℕ) → Holds ys k p l → Holds (xs ++ ys) k p l
Holds-right xs ys k p l h = Holds-among ys (xs ++ ys) (λ s among. Contains-append_right xs ys s among) k p l h

pub Holds-append_cases : (xs ys : List PlaceSpan) (k : SpanKind) (p l : ℕ) → Holds (xs ++ ys) k p l → Holds xs k p l ⊎ Holds ys k p l
Holds-append_cases xs ys k p l h =
    ⊎_elim
    (λ first. inl (record { span = h.span; among = first; kind_is = h.kind_is; from = h.from; to = h.to; last_is = h.last_is }))
    (λ second. inr (record { span = h.span; among = second; kind_is = h.kind_is; from = h.from; to = h.to; last_is = h.last_is }))
    (Contains-append_cases xs ys h.span h.among)

-- a last token that is no greater stays, where the list keeps what it holds
pub HasLess-kept : (xs ys : List PlaceSpan) → ((k : SpanKind) (p l : ℕ) → Holds xs k p l → Holds ys k p l) →
    (k : SpanKind) (p l : ℕ) → HasLess xs k p l → HasLess ys k p l
HasLess-kept xs ys kept k p l h = (h.0, h.1, kept k p h.0 h.2)
