-- Going back from one span of a list after another.
use Rattle.std.proofs.Common.{◌≡◌, ◌⊎◌, ℕ, ◌+◌, ◌<◌, ◌≤◌, List, [], ◌∷◌, ◌++◌, length, inl, inr, sym, arith, subst, get_or, take}
use Rattle.std.specs.Prelude.{Contains}
use Rattle.std.proofs.lemmas.List.{take_all, take_more}
use Rattle.std.proofs.lemmas.List.Elements.{All-nil, All-push, Contains-get_or, Contains-push_cases}
use Rattle.lic_words.specs.Words.{Word}
use Rattle.lic_tokens.specs.Tokens.{TokenValue}
use Rattle.lic_spans.specs.declared.span.PlaceSpan.{PlaceSpan}
use Rattle.lic_view.specs.PlaceSets.{ArePlaced, Reaches}
use Rattle.lic_view.specs.Backward.{AddsBack, IsBack}
use Rattle.lic_view.proofs.Placed.{Holds-among, Reaches-append, Reaches-append_left, Reaches-append_right, Reaches-nil}
use Rattle.lic_view.proofs.Back.{back-both, back-nothing, back-same}
use Rattle.lic_view.specs.declared.sets.keep.Keep.{Keep}

-- from no span
pub spans-none : (keep : Keep) (tokens : List TokenValue) (P : Word → Type 0) (found : List PlaceSpan) → found ≡ [] → IsBack keep tokens P [] found
spans-none keep tokens P found none = subst (λ x. IsBack keep tokens P [] x) (sym none)
    (back-nothing keep tokens P (Reaches tokens []) (λ p q last w r is reads. Reaches-nil tokens q last r))

-- from one span more
pub spans-more : (keep : Keep) (tokens : List TokenValue) (P : Word → Type 0) (spans : List PlaceSpan) (i : ℕ) (d : PlaceSpan) (old new : List PlaceSpan) → i < length spans →
    IsBack keep tokens P (take i spans) old → AddsBack keep tokens P (get_or spans i d) old new → IsBack keep tokens P (take (i + 1) spans) new
spans-more keep tokens P spans i d old new below back adds =
    subst (λ x. IsBack keep tokens P (take (i + 1) spans) x) (sym adds.added)
    (subst (λ x. IsBack keep tokens P x (old ++ adds.more)) (sym (take_more spans i d below)) joined)
  where
    one : List PlaceSpan
    one = get_or spans i d ∷ []

    joined : IsBack keep tokens P (take i spans ++ (get_or spans i d ∷ [])) (old ++ adds.more)
    joined = back-same keep tokens P P _ (Reaches tokens (take i spans ++ (get_or spans i d ∷ []))) (old ++ adds.more) (λ w. (λ h. h, λ h. h)) (λ q last. (
      λ e. elim e [
        | inl r ↦ Reaches-append_left tokens (take i spans) (get_or spans i d ∷ []) q last r
        | inr r ↦ Reaches-append_right tokens (take i spans) (get_or spans i d ∷ []) q last r
      ],
      λ r. Reaches-append tokens (take i spans) (get_or spans i d ∷ []) q last r,
    )) (back-both keep tokens P (Reaches tokens (take i spans)) (Reaches tokens (get_or spans i d ∷ [])) old adds.more back adds.back)

-- from all spans
pub spans-all : (keep : Keep) (tokens : List TokenValue) (P : Word → Type 0) (spans : List PlaceSpan) (i : ℕ) (found : List PlaceSpan) → length spans ≤ i →
    IsBack keep tokens P (take i spans) found → IsBack keep tokens P spans found
spans-all keep tokens P spans i found all back = subst (λ x. IsBack keep tokens P x found) (take_all i spans all) back

-- each span of placed ones is placed
pub placed-one : (tokens : List TokenValue) (spans : List PlaceSpan) (i : ℕ) (d : PlaceSpan) → i < length spans → ArePlaced tokens spans →
    ArePlaced tokens (get_or spans i d ∷ [])
placed-one tokens spans i d below placed = record {
  ordered = All-push (λ (s : PlaceSpan). s.low ≤ s.high) [] (get_or spans i d) (All-nil (λ (s : PlaceSpan). s.low ≤ s.high)) (placed.ordered i d below);
  last = All-push (λ (s : PlaceSpan). s.last < length tokens) [] (get_or spans i d) (All-nil (λ (s : PlaceSpan). s.last < length tokens)) (placed.last i d below);
  front = λ kind number last holds. placed.front kind number last (Holds-among (get_or spans i d ∷ []) spans kind number last (λ s among. member s (Contains-push_cases [] (get_or spans i d) s among)) holds);
}
  where
    member : (s : PlaceSpan) → Contains [] s ⊎ (get_or spans i d ≡ s) → Contains spans s
    member s (inl none) = absurd (omega (arith, none.1))
    member s (inr same) = subst (λ x. Contains spans x) same (Contains-get_or spans i d below)
