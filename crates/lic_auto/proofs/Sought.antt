-- What the matchers of single templates have taken when they began anew, or took a token, and which templates are live then.
use Rattle.std.proofs.Common.{◌≡◌, ◌↔◌, ℕ, zero, suc, List, [], ◌∷◌, ◌++◌, length, take, reverse, Some, refl, sym, ap, ◌∙◌, subst, arith}
use Rattle.std.specs.List.{slice_get, Contains}
use Rattle.std.proofs.Math.Logic.{∥∥₁_map, ⊎_elim}
use Rattle.std.proofs.lemmas.List.{get_or_default}
use Rattle.std.proofs.lemmas.Option.{slice_get_within}
use Rattle.lic_words.specs.Reversal.{reversed_expression, reversed_tokens}
use Rattle.lic_marks.specs.Cores.{HasWordsOf}
use Rattle.lic_marks.specs.Nodes.{core_of}
use Rattle.lic_marks.specs.Unanchored.{tree_of}
use Rattle.lic_set.specs.Sets.{Known, words_of}
use Rattle.lic_auto.specs.Backs.{IsLive}
use Rattle.lic_auto.specs.Changes.{AreChanged}
use Rattle.lic_auto.specs.TemplateBacks.{AreReversed, BeginsAnew, HasTakenBackward, HaveTakenBackward, IsFoundBefore, IsReversed, TakesReversed, back_numbers}
use Rattle.lic_auto.specs.declared.template_backs.TemplateBack.{TemplateBack}
use Rattle.lic_auto.proofs.Changing.{Changed-numbers, Changed-was, at_number, number_there, slice_get-push}
use Rattle.lic_auto.proofs.Ends.{beginning-from_end, end-from_beginning}

module _ (set : List Known) (backs : List TemplateBack) (matcher : TemplateBack) where
  -- one more matcher
  pub AreReversed-push : AreReversed set backs → ((known : Known) → slice_get set matcher.number ≡ Some known → IsReversed matcher known)
      → AreReversed set (backs ++ matcher ∷ [])
  AreReversed-push mirrors new = λ index one known there is.
      ⊎_elim
      (λ (before : slice_get backs index ≡ Some one). mirrors index one known before is)
      (λ (here : matcher ≡ one).
      subst (λ s. ∥ IsReversed s known ∥₁) here ∣ new known (ap (λ s. slice_get set s.number) here ∙ is) ∣₁)
      (slice_get-push backs matcher index one there)

  pub HaveTakenBackward-push : (ts : List (List ℕ)) → HaveTakenBackward set backs ts
      → ((known : Known) → slice_get set matcher.number ≡ Some known → HasTakenBackward matcher known ts) → HaveTakenBackward set (backs ++ matcher ∷ []) ts
  HaveTakenBackward-push ts sought new = λ index one known there is.
      ⊎_elim
      (λ (before : slice_get backs index ≡ Some one). sought index one known before is)
      (λ (here : matcher ≡ one).
      subst (λ s. ∥ HasTakenBackward s known ts ∥₁) here ∣ new known (ap (λ s. slice_get set s.number) here ∙ is) ∣₁)
      (slice_get-push backs matcher index one there)

module _ (set : List Known) (old new : List TemplateBack) where
  module _ (changes : TemplateBack → TemplateBack → Type 0) (trees : (a b : TemplateBack) → changes a b → tree_of b.matcher ≡ tree_of a.matcher)
      (numbers : (a b : TemplateBack) → changes a b → b.number ≡ a.number) where
    -- the trees stay
    pub AreReversed-changed : AreChanged changes old new → AreReversed set old → AreReversed set new
    AreReversed-changed m mirrors = λ index b known there is.
        let (a, was, change) = Changed-was changes old new m index b there in
        ∥∥₁_map (mirrors index a known was (ap (slice_get set) (sym (numbers a b change)) ∙ is))
        (λ words. subst (λ t. HasWordsOf (core_of t) (reversed_expression (words_of known))) (sym (trees a b change)) words)

  -- matchers that began anew have taken no token
  pub HaveTakenBackward-anew : AreChanged BeginsAnew old new → AreReversed set old → HaveTakenBackward set new []
  HaveTakenBackward-anew m mirrors = λ index b known there is.
      let (a, was, change) = Changed-was BeginsAnew old new m index b there in
      ∥∥₁_map (mirrors index a known was (ap (slice_get set) (sym change.number) ∙ is)) (λ words. change.seeks (reversed_expression (words_of known)) words)

  -- matchers that took a token have taken it too
  pub HaveTakenBackward-taken : (token : List ℕ) (ts : List (List ℕ)) → AreChanged (TakesReversed token) old new → HaveTakenBackward set old ts
      → HaveTakenBackward set new (ts ++ reverse token ∷ [])
  HaveTakenBackward-taken token ts m sought = λ index b known there is.
      let (a, was, change) = Changed-was (TakesReversed token) old new m index b there in
      ∥∥₁_map (sought index a known was (ap (slice_get set) (sym change.number) ∙ is)) (λ seeks. change.seeks (reversed_expression (words_of known)) ts seeks)

-- what describes some end of the list from its end describes some beginning of the list
module _ (set : List Known) (backs : List TemplateBack) (ts : List (List ℕ)) (n : ℕ) where
  pub live-found : IsFoundBefore set backs (length backs) (reversed_tokens ts) n → Contains (back_numbers backs) n × IsLive set ts n
  live-found (index, low, (one, there, number), (known, is, described)) =
      let (inside, at) = number_there (λ (s : TemplateBack). s.number) backs index one there in
      let begins = beginning-from_end (words_of known) ts described in
      ((index, inside, get_or_default (back_numbers backs) index n 0 inside ∙ at ∙ number), (known, is, begins.0, begins.1))

  pub found-live : Contains (back_numbers backs) n × IsLive set ts n → IsFoundBefore set backs (length backs) (reversed_tokens ts) n
  found-live ((index, inside, at), (known, is, m, described)) =
      let (one, there, number) = at_number (λ (s : TemplateBack). s.number) backs index n inside at in
      (index, slice_get_within backs index one there, (one, there, number), (known, is, end-from_beginning (words_of known) ts m described))

-- no template describes a beginning of no tokens
pub none_live : (numbers : List ℕ) (set : List Known) (n : ℕ) → Contains [] n ↔ (Contains numbers n × IsLive set [] n)
none_live numbers set n = (
  λ (i, inside, is). absurd (omega (arith, inside)),
  λ (kept, (known, here, m, described)). absurd (described.0 (take_none m)),
)
  where
    take_none : (k : ℕ) → take {A = List ℕ} k [] ≡ []
    take_none zero = refl
    take_none (suc k) = refl

-- the numbers of matchers that began anew, or took a token, are as they were
pub anew-numbers : (old new : List TemplateBack) → AreChanged BeginsAnew old new → back_numbers new ≡ back_numbers old
anew-numbers old new m = Changed-numbers BeginsAnew (λ (one : TemplateBack). one.number) (λ a b change. change.number) old new m

pub taken-numbers : (token : List ℕ) (old new : List TemplateBack) → AreChanged (TakesReversed token) old new → back_numbers new ≡ back_numbers old
taken-numbers token old new m = Changed-numbers (TakesReversed token) (λ (one : TemplateBack). one.number) (λ a b change. change.number) old new m
