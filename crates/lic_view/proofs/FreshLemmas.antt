-- Spans that are not among others, one after another.
use Rattle.std.proofs.Common.{◌≡◌, ◌⊎◌, ℕ, ◌+◌, ◌<◌, ◌≤◌, List, [], ◌∷◌, ◌++◌, length, take, inl, inr, refl, sym, arith, subst, get_or}
use Rattle.std.specs.Prelude.{Contains}
use Rattle.std.proofs.lemmas.List.{take_all, take_more}
use Rattle.std.proofs.lemmas.List.Elements.{All-contains, Contains-append_left, Contains-append_right, Contains-get_or, Contains-push_cases}
use Rattle.lic_tokens.specs.Tokens.{TokenValue}
use Rattle.lic_spans.specs.declared.span.PlaceSpan.{PlaceSpan}
use Rattle.lic_view.specs.PlaceSets.{ArePlaced, Reaches}
use Rattle.lic_view.specs.Fresh.{AreFresh}
use Rattle.lic_view.proofs.Placed.{Holds-among}

module _ (tokens : List TokenValue) (xs known fresh : List PlaceSpan) (are : AreFresh xs known fresh) where
  pub fresh-among : (p l : ℕ) → Reaches tokens fresh p l → Reaches tokens xs p l
  fresh-among p l r = record { kind = r.kind; number = r.number; holds = Holds-among fresh xs r.kind r.number l are.among r.holds; place = r.place }

  pub fresh-parted : (p l : ℕ) → Reaches tokens xs p l → Reaches tokens fresh p l ⊎ Reaches tokens known p l
  fresh-parted p l r = by_case (are.parted r.holds.span r.holds.among)
    where
      has : (ys : List PlaceSpan) → Contains ys r.holds.span → Reaches tokens ys p l
      has ys among = record {
        kind = r.kind;
        number = r.number;
        holds = record { span = r.holds.span; among = among; kind_is = r.holds.kind_is; from = r.holds.from; to = r.holds.to; last_is = r.holds.last_is };
        place = r.place;
      }

      by_case : Contains fresh r.holds.span ⊎ Contains known r.holds.span → Reaches tokens fresh p l ⊎ Reaches tokens known p l
      by_case (inl among) = inl (has fresh among)
      by_case (inr among) = inr (has known among)

  pub fresh-placed : ArePlaced tokens xs → ArePlaced tokens fresh
  fresh-placed placed = record {
    ordered = λ k d below. All-contains (λ (s : PlaceSpan). s.low ≤ s.high) xs (get_or fresh k d) placed.ordered (are.among (get_or fresh k d) (Contains-get_or fresh k d below));
    last = λ k d below. All-contains (λ (s : PlaceSpan). s.last < length tokens) xs (get_or fresh k d) placed.last (are.among (get_or fresh k d) (Contains-get_or fresh k d below));
    front = λ kind number last holds. placed.front kind number last (Holds-among fresh xs kind number last are.among holds);
  }

-- one after another
pub fresh-none : (known fresh : List PlaceSpan) → fresh ≡ [] → AreFresh [] known fresh
fresh-none known fresh none = record {
  among = λ s among. subst (λ x. Contains x s) none among;
  parted = λ s among. absurd (omega (arith, among.1));
}

module _ (xs known old : List PlaceSpan) (i : ℕ) (d : PlaceSpan) (below : i < length xs) (are : AreFresh (take i xs) known old) where
  abbrev one : List PlaceSpan
  one = get_or xs i d ∷ []

  parts : (s : PlaceSpan) → Contains (take (i + 1) xs) s → Contains (take i xs) s ⊎ (get_or xs i d ≡ s)
  parts s among = Contains-push_cases (take i xs) (get_or xs i d) s (subst (λ x. Contains x s) (take_more xs i d below) among)

  earlier : (s : PlaceSpan) → Contains (take i xs) s → Contains (take (i + 1) xs) s
  earlier s among = subst (λ x. Contains x s) (sym (take_more xs i d below)) (Contains-append_left (take i xs) one s among)

  -- one that is not known, or is not known to be
  pub fresh-more : (new : List PlaceSpan) → new ≡ old ++ (get_or xs i d ∷ []) → AreFresh (take (i + 1) xs) known new
  fresh-more new is = record {
    among = λ s among. by_new s (Contains-push_cases old (get_or xs i d) s (subst (λ x. Contains x s) is among));
    parted = λ s among. by_part s (parts s among);
  }
    where
      here : Contains (take (i + 1) xs) (get_or xs i d)
      here = subst (λ x. Contains x (get_or xs i d)) (sym (take_more xs i d below)) (Contains-append_right (take i xs) one (get_or xs i d) (0, omega arith, refl))

      by_new : (s : PlaceSpan) → Contains old s ⊎ (get_or xs i d ≡ s) → Contains (take (i + 1) xs) s
      by_new s (inl among) = earlier s (are.among s among)
      by_new s (inr same) = subst (λ x. Contains (take (i + 1) xs) x) same here

      from_old : (s : PlaceSpan) → Contains old s ⊎ Contains known s → Contains new s ⊎ Contains known s
      from_old s (inl among) = inl (subst (λ x. Contains x s) (sym is) (Contains-append_left old one s among))
      from_old s (inr among) = inr among

      by_part : (s : PlaceSpan) → Contains (take i xs) s ⊎ (get_or xs i d ≡ s) → Contains new s ⊎ Contains known s
      by_part s (inl among) = from_old s (are.parted s among)
      by_part s (inr same) = inl (subst (λ x. Contains x s) (sym is) (Contains-append_right old one s (subst (λ x. Contains one x) same (0, omega arith, refl))))

  -- one that is known
  pub fresh-left : Contains known (get_or xs i d) → AreFresh (take (i + 1) xs) known old
  fresh-left has = record {
    among = λ s among. earlier s (are.among s among);
    parted = λ s among. by_part s (parts s among);
  }
    where
      by_part : (s : PlaceSpan) → Contains (take i xs) s ⊎ (get_or xs i d ≡ s) → Contains old s ⊎ Contains known s
      by_part s (inl among) = are.parted s among
      by_part s (inr same) = inr (subst (λ x. Contains known x) same has)

-- one that is at a place of the known ones
pub fresh-same : (xs known old new : List PlaceSpan) (i at : ℕ) (d e : PlaceSpan) → i < length xs → at ≤ length known → ¬ (at ≡ length known) →
    get_or known at e ≡ get_or xs i d → new ≡ old → AreFresh (take i xs) known old → AreFresh (take (i + 1) xs) known new
fresh-same xs known old new i at d e below within other same kept are =
    subst (λ x. AreFresh (take (i + 1) xs) known x) (sym kept)
    (fresh-left xs known old i d below are (subst (λ x. Contains known x) same (Contains-get_or known at e (omega arith))))

pub fresh-all : (xs known fresh : List PlaceSpan) (i : ℕ) → length xs ≤ i → AreFresh (take i xs) known fresh → AreFresh xs known fresh
fresh-all xs known fresh i all are = subst (λ x. AreFresh x known fresh) (take_all i xs all) are
