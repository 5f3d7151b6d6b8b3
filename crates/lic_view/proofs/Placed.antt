-- Lists of spans put together, and what is known of where tokens end.
use Rattle.std.proofs.Common.{◌⊎◌, ℕ, ◌<◌, ◌≤◌, List, [], ◌++◌, length, inl, inr, arith}
use Rattle.std.specs.Prelude.{Contains}
use Rattle.std.proofs.lemmas.List.Elements.{All-append, All-nil, Contains-append_left, Contains-append_right, Contains-append_cases}
use Rattle.lic_tokens.specs.Tokens.{TokenValue}
use Rattle.lic_spans.specs.Spans.{Holds}
use Rattle.lic_spans.specs.declared.span.SpanKind.{SpanKind}
use Rattle.lic_spans.specs.declared.span.PlaceSpan.{PlaceSpan}
use Rattle.lic_view.specs.PlaceSets.{ArePlaced, LiesBefore, Reaches}

-- a list holds what each list from which it has all members holds
pub Holds-among : (xs ys : List PlaceSpan) (kind : SpanKind) (number last : ℕ) → ((s : PlaceSpan) → Contains xs s → Contains ys s) →
    Holds xs kind number last → Holds ys kind number last
Holds-among xs ys kind number last members holds = record {
  span = holds.span;
  among = members holds.span holds.among;
  kind_is = holds.kind_is;
  from = holds.from;
  to = holds.to;
  last_is = holds.last_is;
}

pub Holds-append : (xs ys : List PlaceSpan) (kind : SpanKind) (number last : ℕ) → Holds (xs ++ ys) kind number last →
    Holds xs kind number last ⊎ Holds ys kind number last
Holds-append xs ys kind number last holds =
    elim (Contains-append_cases xs ys holds.span holds.among) [
      | inl one ↦ inl (record { span = holds.span; among = one; kind_is = holds.kind_is; from = holds.from; to = holds.to; last_is = holds.last_is })
      | inr other ↦ inr (record { span = holds.span; among = other; kind_is = holds.kind_is; from = holds.from; to = holds.to; last_is = holds.last_is })
    ]

pub Holds-nil : (kind : SpanKind) (number last : ℕ) → Holds [] kind number last → ⊥
Holds-nil kind number last holds = omega (arith, holds.among.1)

pub Reaches-append_left : (tokens : List TokenValue) (xs ys : List PlaceSpan) (p last : ℕ) → Reaches tokens xs p last → Reaches tokens (xs ++ ys) p last
Reaches-append_left tokens xs ys p last r = record {
  kind = r.kind;
  number = r.number;
  holds = Holds-among xs (xs ++ ys) r.kind r.number last (λ s. Contains-append_left xs ys s) r.holds;
  place = r.place;
}

pub Reaches-append_right : (tokens : List TokenValue) (xs ys : List PlaceSpan) (p last : ℕ) → Reaches tokens ys p last → Reaches tokens (xs ++ ys) p last
Reaches-append_right tokens xs ys p last r = record {
  kind = r.kind;
  number = r.number;
  holds = Holds-among ys (xs ++ ys) r.kind r.number last (λ s. Contains-append_right xs ys s) r.holds;
  place = r.place;
}

pub Reaches-append : (tokens : List TokenValue) (xs ys : List PlaceSpan) (p last : ℕ) →
    Reaches tokens (xs ++ ys) p last → Reaches tokens xs p last ⊎ Reaches tokens ys p last
Reaches-append tokens xs ys p last r =
    elim (Holds-append xs ys r.kind r.number last r.holds) [
      | inl one ↦ inl (record { kind = r.kind; number = r.number; holds = one; place = r.place })
      | inr other ↦ inr (record { kind = r.kind; number = r.number; holds = other; place = r.place })
    ]

pub Reaches-nil : (tokens : List TokenValue) (p last : ℕ) → Reaches tokens [] p last → ⊥
Reaches-nil tokens p last r = Holds-nil r.kind r.number last r.holds

pub ArePlaced-append : (tokens : List TokenValue) (xs ys : List PlaceSpan) → ArePlaced tokens xs → ArePlaced tokens ys → ArePlaced tokens (xs ++ ys)
ArePlaced-append tokens xs ys one other = record {
  ordered = All-append (λ (s : PlaceSpan). s.low ≤ s.high) xs ys one.ordered other.ordered;
  last = All-append (λ (s : PlaceSpan). s.last < length tokens) xs ys one.last other.last;
  front = λ kind number last holds. front kind number last (Holds-append xs ys kind number last holds);
}
  where
    front : (kind : SpanKind) (number last : ℕ) → Holds xs kind number last ⊎ Holds ys kind number last → LiesBefore tokens kind number last
    front kind number last (inl holds) = one.front kind number last holds
    front kind number last (inr holds) = other.front kind number last holds

pub ArePlaced-nil : (tokens : List TokenValue) → ArePlaced tokens []
ArePlaced-nil tokens = record {
  ordered = All-nil (λ (s : PlaceSpan). s.low ≤ s.high);
  last = All-nil (λ (s : PlaceSpan). s.last < length tokens);
  front = λ kind number last holds. absurd (Holds-nil kind number last holds);
}
