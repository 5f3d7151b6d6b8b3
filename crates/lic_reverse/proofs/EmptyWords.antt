-- Which sets of words have the empty word alone, and that going back over such a set changes no places.
use Rattle.std.proofs.Common.{◌≡◌, ◌↔◌, ℕ, zero, suc, List, [], ◌∷◌, ◌++◌, map, Option, All, Box, Vec, Global, inl, inr, refl, sym, ap, arith, subst, ◌∙◌}
use Rattle.std.proofs.lemmas.List.Elements.{All-head, All-tail}
use Rattle.lic_words.specs.Words.{Word, IsTidy, Power}
use Rattle.lic_words.specs.Expressions as words
use Rattle.lic_words.specs.Expressions.{Expression, IsAtMost, Language, tidy}
use Rattle.lic_ere.specs.declared.ere.Ere.{Ere}
use Rattle.lic_ere.specs.declared.ere.Ere.TheVariants as ere
use Rattle.lic_ere.specs.Trees.{sequence, tree_of}
use Rattle.lic_ere.specs.Meaning.{choice_words, sequence_words, tree_words}
use Rattle.lic_tokens.specs.Tokens.{TokenValue}
use Rattle.lic_spans.specs.declared.span.PlaceSpan.{PlaceSpan}
use Rattle.lic_view.specs.Backward.{IsBack}
use Rattle.lic_reverse.specs.EmptyWord.{HasEmptyWordAlone}
use Rattle.lic_view.specs.PlaceSets.{ArePlaced, Reaches}
use Rattle.lic_reverse.specs.Tidily.{IsTidyBack, Taken}
use Rattle.lic_view.specs.declared.sets.keep.Keep.{Keep}
use Rattle.lic_view.proofs.Back.{back-same, back-stay}
use Rattle.lic_reverse.proofs.CountWords.{empty_tidy}
use Rattle.lic_reverse.proofs.EreLemmas.{tree_of-Alt, tree_of-Cat, tree_of-Repeat}
use Rattle.lic_reverse.proofs.TidyBack.{tidy-same, tidy-stay}

-- the pattern has the empty word alone
abbrev pub IsAlone : Ere → Type 0
IsAlone e = HasEmptyWordAlone (tree_words (tree_of e))

-- ---- patterns one after another

pub alone-sequence : (subs : List Ere) → All IsAlone subs → HasEmptyWordAlone (sequence_words (sequence (map tree_of subs)))
alone-sequence [] all w = (λ is. is, λ is. is)
alone-sequence (e ∷ subs) all w = joined (All-head IsAlone e subs all) (alone-sequence subs (All-tail IsAlone e subs all))
  where
    joined : IsAlone e → HasEmptyWordAlone (sequence_words (sequence (map tree_of subs))) → Language (sequence_words (sequence (map tree_of (e ∷ subs)))) w ↔ (w ≡ [])
    joined first more = (
      λ is. is.4 ∙ ap (λ x. x ++ is.1) ((first is.0).0 is.2) ∙ (more is.1).0 is.3,
      λ is. ([], [], (first []).1 refl, (more []).1 refl, is),
    )

-- ---- any one of the patterns

only-choice : (subs : List Ere) → All IsAlone subs → (w : Word) → Language (choice_words (sequence (map tree_of subs))) w → w ≡ []
only-choice [] all w none = absurd none
only-choice (e ∷ subs) all w (inl is) = (All-head IsAlone e subs all w).0 is
only-choice (e ∷ subs) all w (inr is) = only-choice subs (All-tail IsAlone e subs all) w is

pub alone-choice : (subs : List Ere) → (subs ≡ [] → ⊥) → All IsAlone subs → HasEmptyWordAlone (choice_words (sequence (map tree_of subs)))
alone-choice [] some all w = absurd (some refl)
alone-choice (e ∷ subs) some all w = (only-choice (e ∷ subs) all w, λ is. inl ((All-head IsAlone e subs all w).1 is))

-- ---- repetitions

only-power : (P : Word → Type 0) → ((w : Word) → P w → w ≡ []) → (n : ℕ) (w : Word) → Power P n w → w ≡ []
only-power P only zero w is = is
only-power P only (suc n) w is = is.4 ∙ ap (λ x. x ++ is.1) (only is.0 is.2) ∙ only-power P only n is.1 is.3

empty-power : (P : Word → Type 0) → P [] → (n : ℕ) → Power P n []
empty-power P has zero = refl
empty-power P has (suc n) = ([], [], has, empty-power P has n, refl)

pub alone-times : (e : Expression) (min : ℕ) (max : Option ℕ) → IsAtMost max min → HasEmptyWordAlone e → HasEmptyWordAlone (words.repeat min max e)
alone-times e min max some alone w = (
  λ is. only-power (Language e) (λ v has. (alone v).0 has) is.0 w is.3,
  λ is. (min, omega arith, some, subst (λ v. Power (Language e) min v) (sym is) (empty-power (Language e) ((alone []).1 refl) min)),
)

-- ---- patterns

pub alone-Cat : (e : Ere) (subs : Vec Ere Global) → e ≡ ere.Cat subs → All IsAlone subs.items → IsAlone e
alone-Cat e subs is all = subst (λ t. HasEmptyWordAlone (tree_words t)) (sym (ap tree_of is ∙ tree_of-Cat subs)) (alone-sequence subs.items all)

pub alone-Alt : (e : Ere) (subs : Vec Ere Global) → e ≡ ere.Alt subs → (subs.items ≡ [] → ⊥) → All IsAlone subs.items → IsAlone e
alone-Alt e subs is some all = subst (λ t. HasEmptyWordAlone (tree_words t)) (sym (ap tree_of is ∙ tree_of-Alt subs)) (alone-choice subs.items some all)

pub alone-Repeat : (e : Ere) (body : Box Ere Global) (min : ℕ) (max : Option ℕ) → e ≡ ere.Repeat body min max →
    IsAtMost max min → IsAlone body.value → IsAlone e
alone-Repeat e body min max is some alone =
    subst (λ t. HasEmptyWordAlone (tree_words t)) (sym (ap tree_of is ∙ tree_of-Repeat body min max)) (alone-times (tree_words (tree_of body.value)) min max some alone)

-- ---- places

module _ (keep : Keep) (tokens : List TokenValue) (e : Expression) (alone : HasEmptyWordAlone e) where
  -- the places themselves are those from which such a word leads to them
  pub alone-stays : (xs : Taken → List PlaceSpan) → ((s : Taken) → ArePlaced tokens (xs s)) → IsTidyBack keep tokens (Language e) xs xs
  alone-stays xs placed =
      tidy-same keep tokens (λ w. w ≡ []) (Language e) (λ s q l. Reaches tokens (xs s) q l) xs (λ w is. (alone w).1 is) (λ w is. (alone w).0 is)
      (tidy-stay keep tokens xs placed)

  -- and those from which a tidy one does
  pub alone-back : (spans : List PlaceSpan) → ArePlaced tokens spans → IsBack keep tokens (Language (tidy e)) spans spans
  alone-back spans placed =
      back-same keep tokens (λ w. w ≡ []) (Language (tidy e)) (Reaches tokens spans) (Reaches tokens spans) spans
      (λ w. (λ is. ((alone w).1 is, subst IsTidy (sym is) empty_tidy), λ is. (alone w).0 is.0)) (λ q last. (λ r. r, λ r. r))
      (back-stay keep tokens spans placed)
