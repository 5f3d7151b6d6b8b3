-- Spans that are the same, and lists of them.
use Rattle.std.proofs.Common.{◌≡◌, ℕ, ◌+◌, ◌<◌, ◌≤◌, List, [], ◌∷◌, ◌++◌, length, get_or, take, sym, ap₂, ◌∙◌}
use Rattle.std.proofs.lemmas.List.{take_all, take_more}
use Rattle.lic_spans.specs.declared.span.PlaceSpan.{PlaceSpan}

pub same-more : (xs ys : List PlaceSpan) (i : ℕ) (d e : PlaceSpan) → i < length xs → i < length ys → take i xs ≡ take i ys → get_or xs i d ≡ get_or ys i e →
    take (i + 1) xs ≡ take (i + 1) ys
same-more xs ys i d e one other same item =
    take_more xs i d one ∙ ap₂ (λ x y. x ++ (y ∷ [])) same item ∙ sym (take_more ys i e other)

pub same-all : (xs ys : List PlaceSpan) (i : ℕ) → length xs ≤ i → length ys ≤ i → take i xs ≡ take i ys → xs ≡ ys
same-all xs ys i one other same = sym (take_all i xs one) ∙ same ∙ take_all i ys other
