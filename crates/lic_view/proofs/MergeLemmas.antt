-- Two lists of spans are merged.
use Rattle.std.proofs.Common.{◌≡◌, ◌⊎◌, inl, inr, ℕ, ◌+◌, ◌<◌, ◌≤◌, List, [], ◌∷◌, ◌++◌, length, take, drop, get_or, refl, sym, ap, ◌∙◌, subst, arith}
use Rattle.std.specs.Prelude.{Contains, slice_range}
use Rattle.std.proofs.Math.Seq.{drop-length}
use Rattle.std.proofs.lemmas.List.{append-nil, take-append-drop, take_all, take_more}
use Rattle.std.proofs.lemmas.List.Folds.{drop_split}
use Rattle.std.proofs.lemmas.List.Elements.{All-contains, Contains-append_cases, Contains-append_left, Contains-append_right, Contains-get_or, Contains-push_cases}
use Rattle.lic_words.specs.Words.{Word}
use Rattle.lic_tokens.specs.Tokens.{TokenValue}
use Rattle.lic_spans.specs.Spans.{Holds}
use Rattle.lic_spans.specs.declared.span.PlaceSpan.{PlaceSpan}
use Rattle.lic_view.specs.PlaceSets.{ArePlaced, Reaches}
use Rattle.lic_view.specs.Backward.{IsBackFrom}
use Rattle.lic_view.specs.Merged.{AreMerged}
use Rattle.lic_view.specs.declared.sets.keep.Keep.{Keep}
use Rattle.lic_view.proofs.Placed.{ArePlaced-append, Holds-among}

-- the first `number` spans of one list are merged with those of the other list, but those from `from` on
pub record AreMergedTo (spans others all : List PlaceSpan) (number from : ℕ) : Type 0 where
  pub among : (s : PlaceSpan) → Contains all s → Contains spans s ⊎ Contains others s
  pub one : (s : PlaceSpan) → Contains (take number spans) s → Contains all s
  pub other : (s : PlaceSpan) → Contains others s → Contains all s ⊎ Contains (drop from others) s

module _ (spans others all : List PlaceSpan) (number from : ℕ) (are : AreMergedTo spans others all number from) where
  -- a span of the one list, and before it some of the other
  pub merged-more : (next : ℕ) (d : PlaceSpan) (more new : List PlaceSpan) → number < length spans → from ≤ next →
      more ≡ all ++ slice_range others from next → new ≡ more ++ (get_or spans number d ∷ []) → AreMergedTo spans others new (number + 1) next
  merged-more next d more new below order some is = record {
    among = λ s among. by_new s (Contains-push_cases more (get_or spans number d) s (subst (λ x. Contains x s) is among));
    one = λ s among. by_one s (Contains-push_cases (take number spans) (get_or spans number d) s (subst (λ x. Contains x s) (take_more spans number d below) among));
    other = λ s among. by_other s (are.other s among);
  }
    where
      range : List PlaceSpan
      range = slice_range others from next

      split : drop from others ≡ range ++ drop next others
      split = drop_split others from next order

      in_range : (s : PlaceSpan) → Contains range s → Contains others s
      in_range s among = subst (λ x. Contains x s) (take-append-drop from others)
          (Contains-append_right (take from others) (drop from others) s
          (subst (λ x. Contains x s) (sym split) (Contains-append_left range (drop next others) s among)))

      by_more : (s : PlaceSpan) → Contains all s ⊎ Contains range s → Contains spans s ⊎ Contains others s
      by_more s (inl among) = are.among s among
      by_more s (inr among) = inr (in_range s among)

      by_new : (s : PlaceSpan) → Contains more s ⊎ (get_or spans number d ≡ s) → Contains spans s ⊎ Contains others s
      by_new s (inl among) = by_more s (Contains-append_cases all range s (subst (λ x. Contains x s) some among))
      by_new s (inr same) = inl (subst (λ x. Contains spans x) same (Contains-get_or spans number d below))

      from_more : (s : PlaceSpan) → Contains more s → Contains new s
      from_more s among = subst (λ x. Contains x s) (sym is) (Contains-append_left more (get_or spans number d ∷ []) s among)

      from_all : (s : PlaceSpan) → Contains all s → Contains new s
      from_all s among = from_more s (subst (λ x. Contains x s) (sym some) (Contains-append_left all range s among))

      by_one : (s : PlaceSpan) → Contains (take number spans) s ⊎ (get_or spans number d ≡ s) → Contains new s
      by_one s (inl among) = from_all s (are.one s among)
      by_one s (inr same) = subst (λ x. Contains x s) (sym is)
          (Contains-append_right more (get_or spans number d ∷ []) s (subst (λ x. Contains (get_or spans number d ∷ []) x) same (0, omega arith, refl)))

      by_range : (s : PlaceSpan) → Contains range s ⊎ Contains (drop next others) s → Contains new s ⊎ Contains (drop next others) s
      by_range s (inl among) = inl (from_more s (subst (λ x. Contains x s) (sym some) (Contains-append_right all range s among)))
      by_range s (inr among) = inr among

      by_other : (s : PlaceSpan) → Contains all s ⊎ Contains (drop from others) s → Contains new s ⊎ Contains (drop next others) s
      by_other s (inl among) = inl (from_all s among)
      by_other s (inr among) = by_range s (Contains-append_cases range (drop next others) s (subst (λ x. Contains x s) split among))

  -- the others that are left
  merged-rest : (new : List PlaceSpan) → length spans ≤ number → new ≡ all ++ drop from others → AreMerged spans others new
  merged-rest new every is = record {
    among = λ s among. by_new s (Contains-append_cases all (drop from others) s (subst (λ x. Contains x s) is among));
    one = λ s among. from_all s (are.one s (subst (λ x. Contains x s) (sym (take_all number spans every)) among));
    other = λ s among. by_other s (are.other s among);
  }
    where
      from_all : (s : PlaceSpan) → Contains all s → Contains new s
      from_all s among = subst (λ x. Contains x s) (sym is) (Contains-append_left all (drop from others) s among)

      by_new : (s : PlaceSpan) → Contains all s ⊎ Contains (drop from others) s → Contains spans s ⊎ Contains others s
      by_new s (inl among) = are.among s among
      by_new s (inr among) = inr (subst (λ x. Contains x s) (take-append-drop from others) (Contains-append_right (take from others) (drop from others) s among))

      by_other : (s : PlaceSpan) → Contains all s ⊎ Contains (drop from others) s → Contains new s
      by_other s (inl among) = from_all s among
      by_other s (inr among) = subst (λ x. Contains x s) (sym is) (Contains-append_right all (drop from others) s among)

  pub merged-all : (new : List PlaceSpan) → length spans ≤ number → from ≤ length others → new ≡ all ++ slice_range others from (length others) →
      AreMerged spans others new
  merged-all new every within is = merged-rest new every (is ∙ ap (λ x. all ++ x) (sym rest))
    where
      range : List PlaceSpan
      range = slice_range others from (length others)

      rest : drop from others ≡ range
      rest = drop_split others from (length others) within ∙ ap (λ x. range ++ x) (drop-length others) ∙ append-nil range

-- of the same lists
pub merged-same : (xs ys spans others all : List PlaceSpan) → xs ≡ spans → ys ≡ others → AreMerged xs ys all → AreMerged spans others all
merged-same xs ys spans others all one other are = subst (λ x. AreMerged x others all) one (subst (λ y. AreMerged xs y all) other are)

-- the same members
module _ (tokens : List TokenValue) (spans others all : List PlaceSpan) (are : AreMerged spans others all) where
  to_both : (s : PlaceSpan) → Contains all s → Contains (spans ++ others) s
  to_both s among = by_list (are.among s among)
    where
      by_list : Contains spans s ⊎ Contains others s → Contains (spans ++ others) s
      by_list (inl one) = Contains-append_left spans others s one
      by_list (inr other) = Contains-append_right spans others s other

  from_both : (s : PlaceSpan) → Contains (spans ++ others) s → Contains all s
  from_both s among = by_list (Contains-append_cases spans others s among)
    where
      by_list : Contains spans s ⊎ Contains others s → Contains all s
      by_list (inl one) = are.one s one
      by_list (inr other) = are.other s other

  pub merged-placed : ArePlaced tokens spans → ArePlaced tokens others → ArePlaced tokens all
  merged-placed one other = record {
    ordered = λ k d below. All-contains (λ (s : PlaceSpan). s.low ≤ s.high) (spans ++ others) (get_or all k d) both.ordered (to_both (get_or all k d) (Contains-get_or all k d below));
    last = λ k d below. All-contains (λ (s : PlaceSpan). s.last < length tokens) (spans ++ others) (get_or all k d) both.last (to_both (get_or all k d) (Contains-get_or all k d below));
    front = λ kind number last holds. both.front kind number last (Holds-among all (spans ++ others) kind number last to_both holds);
  }
    where
      both : ArePlaced tokens (spans ++ others)
      both = ArePlaced-append tokens spans others one other

  pub merged-back : (keep : Keep) (P : Word → Type 0) (Ends : ℕ → ℕ → Type 0) → ArePlaced tokens spans → ArePlaced tokens others →
      IsBackFrom keep tokens P Ends (spans ++ others) → IsBackFrom keep tokens P Ends all
  merged-back keep P Ends one other back = record {
    placed = merged-placed one other;
    sound = λ p l r. back.sound p l (moved all (spans ++ others) to_both p l r);
    complete = λ p q l w e is reads.
        let c = back.complete p q l w e is reads in
        (c.0, c.1, moved (spans ++ others) all from_both p c.0 c.2);
  }
    where
      moved : (xs ys : List PlaceSpan) → ((s : PlaceSpan) → Contains xs s → Contains ys s) → (p l : ℕ) → Reaches tokens xs p l → Reaches tokens ys p l
      moved xs ys members p l r = record { kind = r.kind; number = r.number; holds = Holds-among xs ys r.kind r.number l members r.holds; place = r.place }
