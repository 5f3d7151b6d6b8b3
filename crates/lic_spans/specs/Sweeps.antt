-- What a sweep over sorted spans has done so far.
use Rattle.std.specs.Prelude.{◌≡◌, ℕ, ◌+◌, ◌^◌, ◌<◌, ◌≤◌, ◌⊎◌, List, Contains, All}
use Rattle.std.specs.Ordering.{nat_cmp, ordering_then}
use Rattle.std.specs.declared.cmp.Ordering.{Ordering}
use Rattle.std.specs.declared.cmp.Reverse.{Reverse}
use Rattle.lic_spans.specs.declared.span.SpanKind.{SpanKind}
use Rattle.lic_spans.specs.declared.span.PlaceSpan.{PlaceSpan}
use Rattle.lic_spans.specs.Spans.{Holds, LiesBefore, AreApart, FitsKind, gap_of}

-- an active span: its last token, turned round so that the least comes first, and its last place
abbrev pub Active : Type 0
Active = Reverse ℕ × ℕ

-- the order of the active spans in the heap
abbrev pub active_cmp : Active → Active → Ordering
active_cmp x y = ordering_then (nat_cmp y.0.0 x.0.0) (nat_cmp x.1 y.1)

-- some active span of this last token continues to the place or past it
pub record Reaches (active : List Active) (place last : ℕ) : Type 0 where
  pub item : Active
  pub among : Contains active item
  pub last_is : item.0.0 ≡ last
  pub to : place ≤ item.1

-- the list has the place with a last token that is no greater
abbrev pub HasLess : List PlaceSpan → SpanKind → ℕ → ℕ → Type 0
HasLess spans kind place last = (other : ℕ) × (other ≤ last) × Holds spans kind place other

-- the spans are apart, and all lie before the place
pub record IsSettled (spans : List PlaceSpan) (kind : SpanKind) (at : ℕ) : Type 0 where
  pub apart : AreApart spans
  pub before : All (LiesBefore kind at) spans
  pub ordered : All (λ s. s.low ≤ s.high) spans

-- an active span is one of the list's, of the kind, which begins no later than at the place
pub record IsTaken (taken : List PlaceSpan) (kind : SpanKind) (at : ℕ) (item : Active) : Type 0 where
  pub span : PlaceSpan
  pub among : Contains taken span
  pub kind_is : span.kind ≡ kind
  pub from : span.low ≤ at
  pub to : span.high ≡ item.1
  pub last_is : span.last ≡ item.0.0
  pub bounded : span.high + 1 < 2 ^ 64

-- the new list has besides what the old one has the places of the kind from `at` to before `stop`, with this last token
pub record Covers (kind : SpanKind) (at stop last : ℕ) (old new : List PlaceSpan) : Type 0 where
  pub kept : (k : SpanKind) (p l : ℕ) → Holds old k p l → Holds new k p l
  pub added : (p : ℕ) → at ≤ p → p < stop → Holds new kind p last
  pub sound : (k : SpanKind) (p l : ℕ) → Holds new k p l → Holds old k p l ⊎ ((k ≡ kind) × (at ≤ p) × (p < stop) × (l ≡ last))
  pub fits : (gap_of kind ≡ 0 → stop ≤ at + 1) → All FitsKind old → All FitsKind new

-- Of the places of the kind from `at` to before `to` that active spans reach, the new list has the least last token of each;
-- spans that reach further are still active.
pub record Advances (kind : SpanKind) (at : ℕ) (active : List Active) (old : List PlaceSpan) (to : ℕ) (left : List Active) (new : List PlaceSpan) : Type 0 where
  pub onward : at ≤ to
  pub kept : (k : SpanKind) (p l : ℕ) → Holds old k p l → Holds new k p l
  pub sound : (k : SpanKind) (p l : ℕ) → Holds new k p l → Holds old k p l ⊎ ((k ≡ kind) × (at ≤ p) × Reaches active p l)
  pub least : (p l : ℕ) → at ≤ p → Reaches active p l → HasLess new kind p l ⊎ ((to ≤ p) × Reaches left p l)
  pub actives : (item : Active) → Contains left item → Contains active item
  pub settled : IsSettled old kind at → IsSettled new kind to
  pub fits : (gap_of kind ≡ 0 → All (λ item. item.1 ≤ at) active) → All FitsKind old → All FitsKind new

-- The list has of each place of the spans that were taken the least last token, but for the places from `at` on, which
-- spans that are still active reach.
pub record IsSweepOf (taken : List PlaceSpan) (kind : SpanKind) (at : ℕ) (active : List Active) (least : List PlaceSpan) : Type 0 where
  pub sound : (k : SpanKind) (p l : ℕ) → Holds least k p l → Holds taken k p l
  pub actives : (item : Active) → Contains active item → IsTaken taken kind at item
  pub done : (k : SpanKind) (p l : ℕ) → Holds taken k p l → HasLess least k p l ⊎ ((k ≡ kind) × (at ≤ p) × Reaches active p l)
  pub settled : IsSettled least kind at
  pub fits : All FitsKind taken → All FitsKind least

-- the least last token of each place of the spans, and no place twice
pub record IsLeastOf (taken least : List PlaceSpan) : Type 0 where
  pub sound : (k : SpanKind) (p l : ℕ) → Holds least k p l → Holds taken k p l
  pub done : (k : SpanKind) (p l : ℕ) → Holds taken k p l → HasLess least k p l
  pub apart : AreApart least
  pub ordered : All (λ s. s.low ≤ s.high) least
  pub fits : All FitsKind taken → All FitsKind least
