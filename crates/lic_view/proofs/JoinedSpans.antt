-- Lists of spans of which the last is made longer.
use Rattle.std.proofs.Common.{◌≡◌, ◌⊎◌, ℕ, ◌+◌, ◌<◌, ◌≤◌, List, [], ◌∷◌, ◌++◌, length, get_or, set, take, inl, inr, refl, sym, ap, subst, ◌∙◌, arith}
use Rattle.std.specs.Prelude.{All}
use Rattle.std.proofs.lemmas.Bool.{cases_lt}
use Rattle.std.proofs.lemmas.List.Elements.{All-set, Contains-append_left, Contains-append_right}
use Rattle.lic_spans.specs.Spans.{Holds}
use Rattle.lic_spans.specs.declared.span.SpanKind.{SpanKind}
use Rattle.lic_spans.specs.declared.span.PlaceSpan.{PlaceSpan}
use Rattle.lic_spans.proofs.Settling.{last_set, last_split}
use Rattle.lic_view.specs.Backward.{IsEach, Keeps}
use Rattle.lic_view.specs.Joined.{Extends}
use Rattle.lic_view.specs.declared.sets.keep.Keep.{Keep}
use Rattle.lic_view.proofs.BlankLemmas.{held, holds-one}
use Rattle.lic_view.proofs.Placed.{Holds-among, Holds-append}

left : (xs ys : List PlaceSpan) (kind : SpanKind) (number last : ℕ) → Holds xs kind number last → Holds (xs ++ ys) kind number last
left xs ys kind number last holds = Holds-among xs (xs ++ ys) kind number last (λ s. Contains-append_left xs ys s) holds

right : (xs ys : List PlaceSpan) (kind : SpanKind) (number last : ℕ) → Holds ys kind number last → Holds (xs ++ ys) kind number last
right xs ys kind number last holds = Holds-among ys (xs ++ ys) kind number last (λ s. Contains-append_right xs ys s) holds

-- a list of spans keeps itself
pub keeps-all : (keep : Keep) (spans found : List PlaceSpan) → found ≡ spans → All (λ (s : PlaceSpan). s.low ≤ s.high) spans → Keeps keep spans found
keeps-all keep spans found same ordered = subst (Keeps keep spans) (sym same) (record {
  ordered = ordered;
  sound = λ kind number last holds. holds;
  kept = λ kind number last holds. (last, omega arith, λ _. refl, holds);
})

-- what is kept of those that are kept, and of others
pub keeps-more : (keep : Keep) (all found more next : List PlaceSpan) → Keeps keep all found → Keeps keep (found ++ more) next → Keeps keep (all ++ more) next
keeps-more keep all found more next first second = record {
  ordered = second.ordered;
  sound = λ kind number last holds. sound kind number last (Holds-append found more kind number last (second.sound kind number last holds));
  kept = λ kind number last holds. kept kind number last (Holds-append all more kind number last holds);
}
  where
    sound : (kind : SpanKind) (number last : ℕ) → Holds found kind number last ⊎ Holds more kind number last → Holds (all ++ more) kind number last
    sound kind number last (inl holds) = left all more kind number last (first.sound kind number last holds)
    sound kind number last (inr holds) = right all more kind number last holds

    kept : (kind : SpanKind) (number last : ℕ) → Holds all kind number last ⊎ Holds more kind number last →
        (other : ℕ) × (other ≤ last) × (IsEach keep → other ≡ last) × Holds next kind number other
    kept kind number last (inl holds) =
        let one = first.kept kind number last holds in
        let two = second.kept kind number one.0 (left found more kind number one.0 one.3) in
        (two.0, omega (arith, one.1, two.1), λ each. two.2 each ∙ one.2 each, two.3)
    kept kind number last (inr holds) = second.kept kind number last (right found more kind number last holds)

-- the numbers of a kind, with a last token, that a span has
has : (span : PlaceSpan) (kind : SpanKind) (number last : ℕ) → span.kind ≡ kind → span.low ≤ number → number ≤ span.high → span.last ≡ last →
    Holds (span ∷ []) kind number last
has span kind number last is from to same =
    subst (λ l. Holds (span ∷ []) kind number l) same (subst (λ k. Holds (span ∷ []) k number span.last) is (holds-one span number from to))

-- a span that another continues from, as long as both
abbrev pub longer_by : PlaceSpan → PlaceSpan → PlaceSpan
longer_by before span = record { low = before.low; high = span.high; last = before.last; kind = before.kind }

keeps-lengthened : (keep : Keep) (others : List PlaceSpan) (before span : PlaceSpan) → Extends before span →
    All (λ (s : PlaceSpan). s.low ≤ s.high) (others ++ longer_by before span ∷ []) →
    Keeps keep ((others ++ before ∷ []) ++ span ∷ []) (others ++ longer_by before span ∷ [])
keeps-lengthened keep others before span on ordered = record {
  ordered = ordered;
  sound = λ kind number last holds. sound kind number last (Holds-append others (longer_by before span ∷ []) kind number last holds);
  kept = λ kind number last holds. (last, omega arith, λ _. refl, kept kind number last (Holds-append (others ++ before ∷ []) (span ∷ []) kind number last holds));
}
  where
    both : List PlaceSpan
    both = (others ++ before ∷ []) ++ span ∷ []

    in_both : (kind : SpanKind) (number last : ℕ) →
        (before.kind ≡ kind) × (before.low ≤ number) × (number ≤ span.high) × (before.last ≡ last) → (number < span.low) ⊎ (span.low ≤ number) →
        Holds ((others ++ before ∷ []) ++ span ∷ []) kind number last
    in_both kind number last h (inl below) =
        left (others ++ before ∷ []) (span ∷ []) kind number last
        (right others (before ∷ []) kind number last (has before kind number last h.0 h.1 (omega (arith, on.gap)) h.3))
    in_both kind number last h (inr from) =
        right (others ++ before ∷ []) (span ∷ []) kind number last
        (has span kind number last (sym on.kind_is ∙ h.0) from h.2 (sym on.last_is ∙ h.3))

    sound : (kind : SpanKind) (number last : ℕ) → Holds others kind number last ⊎ Holds (longer_by before span ∷ []) kind number last →
        Holds ((others ++ before ∷ []) ++ span ∷ []) kind number last
    sound kind number last (inl holds) =
        left (others ++ before ∷ []) (span ∷ []) kind number last (left others (before ∷ []) kind number last holds)
    sound kind number last (inr holds) =
        in_both kind number last (held (longer_by before span) kind number last holds) (cases_lt number span.low)

    in_longer : (kind : SpanKind) (number last : ℕ) → before.kind ≡ kind → before.low ≤ number → number ≤ span.high → before.last ≡ last →
        Holds (others ++ longer_by before span ∷ []) kind number last
    in_longer kind number last is from to same =
        right others (longer_by before span ∷ []) kind number last (has (longer_by before span) kind number last is from to same)

    of_others : (kind : SpanKind) (number last : ℕ) → Holds others kind number last ⊎ Holds (before ∷ []) kind number last →
        Holds (others ++ longer_by before span ∷ []) kind number last
    of_others kind number last (inl holds) = left others (longer_by before span ∷ []) kind number last holds
    of_others kind number last (inr holds) =
        let h = held before kind number last holds in
        in_longer kind number last h.0 h.1 (omega (arith, h.2, on.to)) h.3

    kept : (kind : SpanKind) (number last : ℕ) → Holds (others ++ before ∷ []) kind number last ⊎ Holds (span ∷ []) kind number last →
        Holds (others ++ longer_by before span ∷ []) kind number last
    kept kind number last (inl holds) = of_others kind number last (Holds-append others (before ∷ []) kind number last holds)
    kept kind number last (inr holds) =
        let h = held span kind number last holds in
        in_longer kind number last (on.kind_is ∙ h.0) (omega (arith, on.from, h.1)) h.2 (on.last_is ∙ h.3)

-- the same where the last span of a list is written
pub keeps-last_lengthened : (keep : Keep) (spans : List PlaceSpan) (i : ℕ) (before span longer : PlaceSpan) → i + 1 ≡ length spans → before ≡ get_or spans i before →
    Extends before span → longer ≡ longer_by before span → All (λ (s : PlaceSpan). s.low ≤ s.high) spans → span.low ≤ span.high →
    Keeps keep (spans ++ span ∷ []) (set spans i longer)
keeps-last_lengthened keep spans i before span longer last is on same ordered order =
    subst (λ x. Keeps keep (spans ++ span ∷ []) (set spans i x)) (sym same)
    (subst (λ x. Keeps keep (spans ++ span ∷ []) x) (sym written)
    (subst (λ x. Keeps keep (x ++ span ∷ []) (take i spans ++ longer_by before span ∷ [])) (sym split)
    (keeps-lengthened keep (take i spans) before span on
    (subst (λ x. All (λ (s : PlaceSpan). s.low ≤ s.high) x) written
    (All-set (λ (s : PlaceSpan). s.low ≤ s.high) spans i (longer_by before span) (omega (arith, on.from, order)) ordered)))))
  where
    written : set spans i (longer_by before span) ≡ take i spans ++ longer_by before span ∷ []
    written = last_set spans i (longer_by before span) last

    split : spans ≡ take i spans ++ before ∷ []
    split = last_split spans i before last ∙ ap (λ x. take i spans ++ x ∷ []) (sym is)
