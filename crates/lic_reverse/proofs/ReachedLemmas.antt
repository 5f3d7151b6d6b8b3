-- Ways that are added to those that were reached, and ways that are settled.
use Rattle.std.proofs.Common.{◌≡◌, ◌⊎◌, ℕ, List, [], ◌++◌, inl, inr, refl, sym, ap, subst, ◌∙◌}
use Rattle.std.proofs.lemmas.List.{append-nil}
use Rattle.lic_tokens.specs.Tokens.{TokenValue}
use Rattle.lic_spans.specs.declared.span.PlaceSpan.{PlaceSpan}
use Rattle.lic_view.specs.Fresh.{AreFresh}
use Rattle.lic_view.specs.PlaceSets.{ArePlaced, Reaches}
use Rattle.lic_reverse.specs.Reached.{IsFrontierOf}
use Rattle.lic_reverse.specs.Tidily.{IsTakenBack, IsTidyBack, IsTidyBackFrom, Taken}
use Rattle.lic_view.proofs.Placed.{ArePlaced-append, Reaches-append, Reaches-append_left, Reaches-append_right}
use Rattle.lic_view.proofs.FreshLemmas.{fresh-among, fresh-parted, fresh-placed}
use Rattle.lic_places.specs.Reads.{Reads}
use Rattle.lic_view.proofs.Back.{Beats-same}
use Rattle.lic_reverse.proofs.TidyBack.{HasBetter, IsEmptyWord, tidy-least, tidy-lists, tidy-stay}
use Rattle.lic_reverse.proofs.TidyPassing.{better-left, better-right}
use Rattle.lic_reverse.proofs.TidyPowers.{from-least, to-least}
use Rattle.lic_view.specs.declared.sets.keep.Keep.{Keep}

module _ (keep : Keep) (tokens : List TokenValue) where
  -- as they come
  pub front-added : (old next new front : Taken → List PlaceSpan) → ((s : Taken) → new s ≡ old s ++ next s) → ((s : Taken) → front s ≡ next s) →
      ((s : Taken) → ArePlaced tokens (old s)) → ((s : Taken) → ArePlaced tokens (next s)) →
      IsFrontierOf keep tokens old (λ s. old s ++ next s) new front
  front-added old next new front added same one other = record {
    back = tidy-lists keep tokens IsEmptyWord (λ t q l. Reaches tokens (all t) q l) all new added
        (tidy-stay keep tokens all (λ s. ArePlaced-append tokens (old s) (next s) (one s) (other s)));
    placed = λ s. subst (λ x. ArePlaced tokens x) (sym (same s)) (other s);
    among = λ s p l r. subst (λ x. Reaches tokens x p l) (sym (added s))
        (Reaches-append_right tokens (old s) (next s) p l (subst (λ x. Reaches tokens x p l) (same s) r));
    parted = λ s p l r. by_part s p l (Reaches-append tokens (old s) (next s) p l (subst (λ x. Reaches tokens x p l) (added s) r));
  }
    where
      all : Taken → List PlaceSpan
      all s = old s ++ next s

      by_part : (s : Taken) (p l : ℕ) → Reaches tokens (old s) p l ⊎ Reaches tokens (next s) p l → Reaches tokens (front s) p l ⊎ Reaches tokens (old s) p l
      by_part s p l (inl r) = inr r
      by_part s p l (inr r) = inl (subst (λ x. Reaches tokens x p l) (sym (same s)) r)

  -- settled: first those that were reached, and then with the next ones
  pub front-settled : (old next known rest all least new fresh : Taken → List PlaceSpan) →
      IsTidyBack keep tokens IsEmptyWord old known → ((s : Taken) → all s ≡ known s ++ next s) → ((s : Taken) → ArePlaced tokens (next s)) →
      IsTidyBack keep tokens IsEmptyWord all least → ((s : Taken) → AreFresh (least s) (known s) (fresh s)) →
      ((s : Taken) → rest s ≡ []) → ((s : Taken) → new s ≡ least s ++ rest s) →
      IsFrontierOf keep tokens old (λ s. old s ++ next s) new fresh
  front-settled old next known rest all least new fresh settled joined placed back are empty is = record {
    back = tidy-lists keep tokens IsEmptyWord Ends least new same (tidy-least keep tokens IsEmptyWord Ends all least
        (tidy-lists keep tokens IsEmptyWord Ends both all joined begun) back);
    placed = λ s. fresh-placed tokens (least s) (known s) (fresh s) (are s) (back.placed s);
    among = λ s p l r. subst (λ x. Reaches tokens x p l) (sym (same s)) (fresh-among tokens (least s) (known s) (fresh s) (are s) p l r);
    parted = λ s p l r. by_part s p l (fresh-parted tokens (least s) (known s) (fresh s) (are s) p l (subst (λ x. Reaches tokens x p l) (same s) r));
  }
    where
      Ends : Taken → ℕ → ℕ → Type 0
      Ends t q l = Reaches tokens (old t ++ next t) q l

      both : Taken → List PlaceSpan
      both s = known s ++ next s

      same : (s : Taken) → new s ≡ least s
      same s = is s ∙ (ap (λ x. least s ++ x) (empty s) ∙ append-nil (least s))

      sound : (s : Taken) (p l : ℕ) → Reaches tokens (known s) p l ⊎ Reaches tokens (next s) p l → Reaches tokens (old s ++ next s) p l
      sound s p l (inl r) = Reaches-append_left tokens (old s) (next s) p l (from-least keep tokens IsEmptyWord old known settled s p l r)
      sound s p l (inr r) = Reaches-append_right tokens (old s) (next s) p l r

      better : (s : Taken) (p l : ℕ) → Reaches tokens (old s) p l ⊎ Reaches tokens (next s) p l → HasBetter keep tokens (known s ++ next s) p l
      better s p l (inl r) = better-left keep tokens (known s) (next s) p l (to-least keep tokens IsEmptyWord old known settled s p l l (Beats-same keep tokens p l) r)
      better s p l (inr r) = better-right keep tokens (known s) (next s) p l (l, Beats-same keep tokens p l, r)

      begun : IsTidyBackFrom keep tokens IsEmptyWord Ends both
      begun = record {
        placed = λ s. ArePlaced-append tokens (known s) (next s) (settled.placed s) (placed s);
        sound = λ s p l r. (s, p, sound s p l (Reaches-append tokens (known s) (next s) p l r), [], refl, refl, refl);
        complete = λ s t p q l w e none taken reads.
            let here : p ≡ q = subst (λ x. Reads tokens p x q) none reads in
            let at : s ≡ t = subst (λ x. IsTakenBack s x t) none taken in
            better s p l (Reaches-append tokens (old s) (next s) p l
            (subst (λ x. Reaches tokens (old x ++ next x) p l) (sym at) (subst (λ x. Reaches tokens (old t ++ next t) x l) (sym here) e)));
      }

      by_part : (s : Taken) (p l : ℕ) → Reaches tokens (fresh s) p l ⊎ Reaches tokens (known s) p l → Reaches tokens (fresh s) p l ⊎ Reaches tokens (old s) p l
      by_part s p l (inl r) = inl r
      by_part s p l (inr r) = inr (from-least keep tokens IsEmptyWord old known settled s p l r)
