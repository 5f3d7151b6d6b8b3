-- Going back from one number and one span after another, where of what is found some is left out.
use Rattle.std.proofs.Common.{◌≡◌, ℕ, ◌+◌, ◌<◌, ◌≤◌, List, [], ◌++◌, length, refl, sym, subst, get_or, take}
use Rattle.std.specs.Prelude.{All}
use Rattle.std.proofs.lemmas.List.{append-nil}
use Rattle.lic_words.specs.Words.{Word}
use Rattle.lic_tokens.specs.Tokens.{TokenValue}
use Rattle.lic_places.specs.Places.{AreTexts}
use Rattle.lic_spans.specs.declared.span.PlaceSpan.{PlaceSpan}
use Rattle.lic_view.specs.PlaceSets.{Reaches}
use Rattle.lic_view.specs.Backward.{AddsKept, IsBack, IsBackFrom, Keeps}
use Rattle.lic_view.specs.declared.sets.keep.Keep.{Keep}
use Rattle.lic_view.proofs.Back.{back-keeps}
use Rattle.lic_view.proofs.JoinedSpans.{keeps-all, keeps-more}
use Rattle.lic_view.proofs.Numbers.{AddsBelow, At, below-all, below-first, below-more}
use Rattle.lic_view.proofs.SpanLoops.{spans-more}

-- what is kept once the places were added that lead to those of the numbers below one
pub record KeepsBelow (keep : Keep) (tokens : List TokenValue) (P : Word → Type 0) (span : PlaceSpan) (end : ℕ) (old new : List PlaceSpan) : Type 0 where
  pub all : List PlaceSpan
  pub adds : AddsBelow keep tokens P span end old all
  pub kept : Keeps keep all new

module _ (keep : Keep) (tokens : List TokenValue) (P : Word → Type 0) (span : PlaceSpan) where
  pub keeps-below_first : (old : List PlaceSpan) → All (λ (s : PlaceSpan). s.low ≤ s.high) old → KeepsBelow keep tokens P span span.low old old
  keeps-below_first old ordered = record { all = old; adds = below-first keep tokens P span old; kept = keeps-all keep old old refl ordered }

  -- spans are added, and of all of them some are kept
  pub keeps-below_more : (number : ℕ) (old new ys next : List PlaceSpan) → span.low ≤ number → KeepsBelow keep tokens P span number old new →
      IsBackFrom keep tokens P (At tokens span number) ys → Keeps keep (new ++ ys) next → KeepsBelow keep tokens P span (number + 1) old next
  keeps-below_more number old new ys next from below back kept = record {
    all = below.all ++ ys;
    adds = below-more keep tokens P span number old below.all (below.all ++ ys) ys from below.adds back refl;
    kept = keeps-more keep below.all new ys next below.kept kept;
  }

  -- nothing is added
  pub keeps-below_same : (number : ℕ) (old new next : List PlaceSpan) → span.low ≤ number → KeepsBelow keep tokens P span number old new →
      IsBackFrom keep tokens P (At tokens span number) [] → next ≡ new → KeepsBelow keep tokens P span (number + 1) old next
  keeps-below_same number old new next from below back same =
      subst (KeepsBelow keep tokens P span (number + 1) old) (sym same)
      (keeps-below_more number old new [] new from below back (keeps-all keep (new ++ []) new (sym (append-nil new)) ordered))
    where
      ordered : All (λ (s : PlaceSpan). s.low ≤ s.high) (new ++ [])
      ordered = subst (All (λ (s : PlaceSpan). s.low ≤ s.high)) (sym (append-nil new)) below.kept.ordered

  pub keeps-below_all : (end : ℕ) (old new : List PlaceSpan) → end ≡ span.high + 1 → KeepsBelow keep tokens P span end old new → AddsKept keep tokens P span old new
  keeps-below_all end old new last below = record { all = below.all; adds = below-all keep tokens P span end old below.all last below.adds; kept = below.kept }

-- from one span more
pub spans-kept_more : (keep : Keep) (tokens : List TokenValue) (P : Word → Type 0) (spans : List PlaceSpan) (i : ℕ) (d : PlaceSpan) (old new : List PlaceSpan) →
    AreTexts tokens → i < length spans → IsBack keep tokens P (take i spans) old → AddsKept keep tokens P (get_or spans i d) old new →
    IsBack keep tokens P (take (i + 1) spans) new
spans-kept_more keep tokens P spans i d old new texts below back adds =
    back-keeps keep tokens P (Reaches tokens (take (i + 1) spans)) adds.all new texts
    (spans-more keep tokens P spans i d old adds.all below back adds.adds) adds.kept
