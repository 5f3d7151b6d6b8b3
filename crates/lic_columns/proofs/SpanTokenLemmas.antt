-- Spans that are given by where they begin and where they end.
use Rattle.std.proofs.Common.{◌≡◌, ℕ, zero, suc, ◌+◌, ◌<◌, ◌≤◌, Bool, true, false, List, [], ◌∷◌, length, drop, get_or, refl, ap, ◌∙◌, arith, subst}
use Rattle.lic_columns.specs.Cells as columns
use Rattle.lic_columns.specs.Cells.{Span, from_here, next_cell, with_cell, spans, continues, is_blank, starts_of, ends_of}
use Rattle.lic_columns.specs.SpanTokens.{spans_by}

pub spans_by-own : (ss : List Span) → spans_by (starts_of ss) (ends_of ss) ≡ ss
spans_by-own [] = refl
spans_by-own (s ∷ ss) = ap (λ l. s ∷ l) (spans_by-own ss)

pub spans_by-more : (starts ends : List ℕ) (i : ℕ) → length ends ≡ length starts → i < length starts
    → drop i (spans_by starts ends) ≡ record { start = get_or starts i 0; end = get_or ends i 0 } ∷ drop (i + 1) (spans_by starts ends)
spans_by-more [] ends i same lt = absurd (omega arith)
spans_by-more (s ∷ starts) [] i same lt = absurd (omega arith)
spans_by-more (s ∷ starts) (e ∷ ends) zero same lt = refl
spans_by-more (s ∷ starts) (e ∷ ends) (suc i) same lt =
    let next : suc (i + 1) ≡ suc i + 1 = omega arith in
    spans_by-more starts ends i (omega arith) (omega arith)
    ∙ ap (λ n. record { start = get_or starts i 0; end = get_or ends i 0 } ∷ drop n (spans_by (s ∷ starts) (e ∷ ends))) next

pub spans_by-none : (starts ends : List ℕ) (i : ℕ) → length starts ≤ i → drop i (spans_by starts ends) ≡ []
spans_by-none [] ends zero past = refl
spans_by-none [] ends (suc i) past = refl
spans_by-none (s ∷ starts) ends zero past = absurd (omega arith)
spans_by-none (s ∷ starts) [] (suc i) past = refl
spans_by-none (s ∷ starts) (e ∷ ends) (suc i) past = spans_by-none starts ends i (omega arith)

-- ---- where spans lie

abbrev pub Bounded : ℕ → ℕ → List Span → Type 0
Bounded low high [] = Unit {0}
Bounded low high (s ∷ ss) = (low ≤ s.start) × (s.start < s.end) × (s.end ≤ high) × Bounded low high ss

bounded_before : (low high : ℕ) (ss : List Span) → Bounded (suc low) high ss → Bounded low high ss
bounded_before low high [] h = tt
bounded_before low high (s ∷ ss) h = (omega (arith, h.0), h.1, h.2, bounded_before low high ss h.3)

bounded_with : (at high : ℕ) (b more : Bool) (ss : List Span) → suc at ≤ high → Bounded (suc at) high ss → Bounded at high (with_cell at b more ss)
bounded_with at high true more ss bounded h = bounded_before at high ss h
bounded_with at high false true [] bounded h = tt
bounded_with at high false true (s ∷ ss) bounded h = (omega arith, omega (arith, h.0, h.1), h.2, bounded_before at high ss h.3)
bounded_with at high false false ss bounded h = (omega arith, omega arith, bounded, bounded_before at high ss h)

pub spans_bounded : (at : ℕ) (cells : List columns.Cell) → Bounded at (at + length cells) (spans at cells)
spans_bounded at [] = tt
spans_bounded at (c ∷ cells) =
    let high : suc at + length cells ≡ at + length (c ∷ cells) = omega arith in
    bounded_with at (at + length (c ∷ cells)) (is_blank c) (continues c (next_cell cells)) (spans (suc at) cells) (omega arith)
    (subst (λ n. Bounded (suc at) n (spans (suc at) cells)) high (spans_bounded (suc at) cells))

pub bounded_at : (low high : ℕ) (ss : List Span) → Bounded low high ss → (i : ℕ) → i < length (starts_of ss)
    → (low ≤ get_or (starts_of ss) i 0) × (get_or (starts_of ss) i 0 < get_or (ends_of ss) i 0) × (get_or (ends_of ss) i 0 ≤ high)
bounded_at low high [] h i lt = absurd (omega arith)
bounded_at low high (s ∷ ss) h zero lt = (h.0, h.1, h.2)
bounded_at low high (s ∷ ss) h (suc i) lt = bounded_at low high ss h.3 i (omega arith)

pub length-ends : (ss : List Span) → length (ends_of ss) ≡ length (starts_of ss)
length-ends [] = refl
length-ends (s ∷ ss) = ap suc (length-ends ss)
