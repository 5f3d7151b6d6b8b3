-- What the runs of single templates have taken when they began anew, or took a token.
use Rattle.std.proofs.Common.{◌≡◌, ℕ, List, [], ◌∷◌, ◌++◌, Some, sym, ap, ◌∙◌, subst}
use Rattle.std.specs.List.{slice_get, Contains}
use Rattle.std.proofs.Math.Logic.{∥∥₁_map, ⊎_elim}
use Rattle.lic_marks.specs.Cores.{HasWordsOf}
use Rattle.lic_marks.specs.Nodes.{core_of}
use Rattle.lic_marks.specs.Anchored.{tree_of}
use Rattle.lic_set.specs.Sets.{Known, words_of}
use Rattle.lic_auto.specs.Changes.{AreChanged}
use Rattle.lic_auto.specs.TemplateRuns.{AreFollowing, AreOver, BeginsAmong, Follows, IsOver, Takes, run_numbers}
use Rattle.lic_auto.specs.declared.template_runs.TemplateRun.{TemplateRun}
use Rattle.lic_auto.proofs.Changing.{Changed-was, Changed-numbers, has_number, slice_get-push}

module _ (set : List Known) (runs : List TemplateRun) (run : TemplateRun) where
  -- one more run
  pub AreOver-push : AreOver set runs → ((known : Known) → slice_get set run.number ≡ Some known → IsOver run (words_of known))
      → AreOver set (runs ++ run ∷ [])
  AreOver-push over new = λ index one known there is.
      ⊎_elim
      (λ (before : slice_get runs index ≡ Some one). over index one known before is)
      (λ (here : run ≡ one).
      subst (λ r. ∥ IsOver r (words_of known) ∥₁) here ∣ new known (ap (λ r. slice_get set r.number) here ∙ is) ∣₁)
      (slice_get-push runs run index one there)

  -- all of the runs and one more
  pub AreFollowing-push : (ts : List (List ℕ)) → AreFollowing set runs (run_numbers runs) ts
      → ((known : Known) → slice_get set run.number ≡ Some known → Follows run (words_of known) ts)
      → AreFollowing set (runs ++ run ∷ []) (run_numbers (runs ++ run ∷ [])) ts
  AreFollowing-push ts following new = record {
    follow = λ index one known there is among.
        ⊎_elim
        (λ (before : slice_get runs index ≡ Some one).
        following.follow index one known before is (has_number (λ (r : TemplateRun). r.number) runs index one before))
        (λ (here : run ≡ one).
        subst (λ r. ∥ Follows r (words_of known) ts ∥₁) here ∣ new known (ap (λ (r : TemplateRun). slice_get set r.number) here ∙ is) ∣₁)
        (slice_get-push runs run index one there);
    left_out = λ index one there gone. absurd (gone (has_number (λ (r : TemplateRun). r.number) (runs ++ run ∷ []) index one there));
  }

module _ (set : List Known) (old new : List TemplateRun) where
  module _ (changes : TemplateRun → TemplateRun → Type 0) (trees : (a b : TemplateRun) → changes a b → tree_of b.run ≡ tree_of a.run)
      (numbers : (a b : TemplateRun) → changes a b → b.number ≡ a.number) where
    -- the trees stay
    pub AreOver-changed : AreChanged changes old new → AreOver set old → AreOver set new
    AreOver-changed m over = λ index b known there is.
        let (a, was, change) = Changed-was changes old new m index b there in
        ∥∥₁_map (over index a known was (ap (slice_get set) (sym (numbers a b change)) ∙ is))
        (λ words. subst (λ t. HasWordsOf (core_of t) (words_of known)) (sym (trees a b change)) words)

  -- runs that began anew have taken no token
  pub AreFollowing-begun : (numbers : List ℕ) → AreChanged (BeginsAmong numbers) old new → AreOver set old → AreFollowing set new numbers []
  AreFollowing-begun numbers m over = record {
    follow = λ index b known there is among.
        let (a, was, change) = Changed-was (BeginsAmong numbers) old new m index b there in
        ∥∥₁_map (over index a known was (ap (slice_get set) (sym change.number) ∙ is))
        (λ words. change.entered (words_of known) (subst (Contains numbers) change.number among) words);
    left_out = λ index b there gone.
        let (a, was, change) = Changed-was (BeginsAmong numbers) old new m index b there in
        change.left_out (λ among. gone (subst (Contains numbers) (sym change.number) among));
  }

  -- runs that took a token have taken it too
  pub AreFollowing-taken : (numbers : List ℕ) (token : List ℕ) (ts : List (List ℕ)) → AreChanged (Takes token) old new
      → AreFollowing set old numbers ts → AreFollowing set new numbers (ts ++ token ∷ [])
  AreFollowing-taken numbers token ts m following = record {
    follow = λ index b known there is among.
        let (a, was, change) = Changed-was (Takes token) old new m index b there in
        ∥∥₁_map (following.follow index a known was (ap (slice_get set) (sym change.number) ∙ is) (subst (Contains numbers) change.number among))
        (λ follows. change.follows (words_of known) ts follows);
    left_out = λ index b there gone.
        let (a, was, change) = Changed-was (Takes token) old new m index b there in
        change.left_out (following.left_out index a was (λ among. gone (subst (Contains numbers) (sym change.number) among)));
  }

-- the numbers of runs that began anew, or took a token, are as they were
pub begun-numbers : (numbers : List ℕ) (old new : List TemplateRun) → AreChanged (BeginsAmong numbers) old new → run_numbers new ≡ run_numbers old
begun-numbers numbers old new m = Changed-numbers (BeginsAmong numbers) (λ (run : TemplateRun). run.number) (λ a b change. change.number) old new m

pub taken-numbers : (token : List ℕ) (old new : List TemplateRun) → AreChanged (Takes token) old new → run_numbers new ≡ run_numbers old
taken-numbers token old new m = Changed-numbers (Takes token) (λ (run : TemplateRun). run.number) (λ a b change. change.number) old new m
