-- What a list of spans holds, and which lists have no place of a kind twice.
use Rattle.std.specs.Prelude.{◌≡◌, max, ◌+◌, ◌==◌, ◌&&◌, ◌||◌, Bool, nat_le, nat_lt, ℕ, ◌<◌, ◌≤◌, List, Contains, All, AllPairs}
use Rattle.lic_spans.specs.declared.span.SpanKind.{SpanKind}
use Rattle.lic_spans.specs.declared.span.SpanKind.TheVariants.{End, Place, Letters, Blanks}
use Rattle.lic_spans.specs.declared.span.PlaceSpan.{PlaceSpan}

-- some span of the list has this kind and this last token, and the place among its places
pub record Holds (spans : List PlaceSpan) (kind : SpanKind) (place last : ℕ) : Type 0 where
  pub span : PlaceSpan
  pub among : Contains spans span
  pub kind_is : span.kind ≡ kind
  pub from : span.low ≤ place
  pub to : place ≤ span.high
  pub last_is : span.last ≡ last

-- the place of a kind in the order of kinds
abbrev pub rank : SpanKind → ℕ
rank End = 0
rank Place = 1
rank Letters = 2
rank Blanks = 3

-- the span is of an earlier kind, or of this one and ends before the place
pub record LiesBefore (kind : SpanKind) (place : ℕ) (span : PlaceSpan) : Type 0 where
  pub kinds : rank span.kind ≤ rank kind
  pub places : span.kind ≡ kind → span.high < place

-- sorted by kind, and within a kind by place, each span beginning after those before it end
abbrev pub AreApart : List PlaceSpan → Type 0
AreApart spans = AllPairs (λ before span. LiesBefore span.kind span.low before) spans

-- of an earlier kind, or of the same one and beginning no later
pub record BeginsBefore (before span : PlaceSpan) : Type 0 where
  pub kinds : rank before.kind ≤ rank span.kind
  pub places : before.kind ≡ span.kind → before.low ≤ span.low

-- of an earlier kind, or of the same one and of a lesser last token, or of the same one too and ending before the other begins
pub record EndsBefore (before span : PlaceSpan) : Type 0 where
  pub kinds : rank before.kind ≤ rank span.kind
  pub lasts : before.kind ≡ span.kind → before.last ≤ span.last
  pub places : before.kind ≡ span.kind → before.last ≡ span.last → before.high < span.low

-- sorted by kind, within a kind by last token, and of each by place, each span beginning after those before it end
abbrev pub AreApartOfLast : List PlaceSpan → Type 0
AreApartOfLast spans = AllPairs EndsBefore spans

-- of an earlier kind, or of the same one and of a lesser last token, or of the same one too and beginning no later
pub record StartsBefore (before span : PlaceSpan) : Type 0 where
  pub kinds : rank before.kind ≤ rank span.kind
  pub lasts : before.kind ≡ span.kind → before.last ≤ span.last
  pub places : before.kind ≡ span.kind → before.last ≡ span.last → before.low ≤ span.low

-- the spans are apart, and each starts before this one
pub record AreBefore (spans : List PlaceSpan) (span : PlaceSpan) : Type 0 where
  pub apart : AreApartOfLast spans
  pub start : All (λ s. StartsBefore s span) spans

-- how far after the end of a span another of its kind may begin that is joined with it: a single place is joined with none
abbrev pub gap_of : SpanKind → ℕ
gap_of End = 0
gap_of Place = 0
gap_of Letters = 1
gap_of Blanks = 1

-- a span of the kinds End and Place has one place
abbrev pub FitsKind : PlaceSpan → Type 0
FitsKind span = gap_of span.kind ≡ 0 → span.low ≡ span.high

-- whether a span has the kind and the last token of another, and begins within it or, of many places, next after it
abbrev pub is_continued_by : PlaceSpan → PlaceSpan → Bool
is_continued_by before span =
    rank before.kind == rank span.kind && (before.last == span.last && (nat_le before.low span.low && nat_le span.low (before.high + gap_of before.kind)))

-- a span that continues to this place at least
abbrev pub lengthened : PlaceSpan → ℕ → PlaceSpan
lengthened span high = record { low = span.low; high = max span.high high; last = span.last; kind = span.kind }

-- whether another span has the kind of a span, all its places, and a last token that is no greater
abbrev pub is_covered_by : PlaceSpan → PlaceSpan → Bool
is_covered_by span by = rank by.kind == rank span.kind && (nat_le by.low span.low && (nat_le span.high by.high && nat_le by.last span.last))

-- whether a span is of an earlier kind than another, or of its kind and ends before it
abbrev pub is_before : PlaceSpan → PlaceSpan → Bool
is_before before span = nat_lt (rank before.kind) (rank span.kind) || (rank before.kind == rank span.kind && nat_lt before.high span.low)
