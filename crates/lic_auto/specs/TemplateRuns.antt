-- What the runs of single templates have taken.
use Rattle.std.specs.Prelude.{◌≡◌, ℕ, List, [], ◌∷◌, ◌++◌, Bool, true, false, map, Some, Contains}
use Rattle.std.specs.List.{slice_get}
use Rattle.lic_words.specs.Expressions.{Expression}
use Rattle.lic_words.specs.Describing.{IsDescribed}
use Rattle.lic_marks.specs.Cores.{HasWordsOf}
use Rattle.lic_marks.specs.Nodes.{core_of}
use Rattle.lic_marks.specs.Anchored.{HasRead, tree_of}
use Rattle.lic_set.specs.Sets.{Known, words_of}
use Rattle.lic_auto.specs.declared.template_runs.TemplateRun.{TemplateRun}

-- the numbers of the templates
abbrev pub run_numbers : List TemplateRun → List ℕ
run_numbers runs = map (λ run. run.number) runs

-- the run is over a tree with the words of the expression
abbrev pub IsOver : TemplateRun → Expression → Type 0
IsOver run e = HasWordsOf (core_of (tree_of run.run)) e

-- the run has taken the tokens; where it is not live, the expression describes no list that begins with them
pub record Follows (run : TemplateRun) (e : Expression) (ts : List (List ℕ)) : Type 0 where
  pub live : run.is_live ≡ true → HasRead run.run e ts
  pub ended : run.is_live ≡ false → (more : List (List ℕ)) → ¬ (IsDescribed e (ts ++ more))

-- the run begins anew, if this holds, or is left out
pub record BeginsIf (is_entered : Bool) (old new : TemplateRun) : Type 0 where
  pub number : new.number ≡ old.number
  pub tree : tree_of new.run ≡ tree_of old.run
  pub live : new.is_live ≡ is_entered
  pub entered : (e : Expression) → is_entered ≡ true → IsOver old e → Follows new e []

-- the run begins anew, if its number is one of these, or is left out
pub record BeginsAmong (numbers : List ℕ) (old new : TemplateRun) : Type 0 where
  pub number : new.number ≡ old.number
  pub tree : tree_of new.run ≡ tree_of old.run
  pub entered : (e : Expression) → Contains numbers old.number → IsOver old e → Follows new e []
  pub left_out : ¬ (Contains numbers old.number) → new.is_live ≡ false

-- the run takes the token, if it is live
pub record Takes (token : List ℕ) (old new : TemplateRun) : Type 0 where
  pub number : new.number ≡ old.number
  pub tree : tree_of new.run ≡ tree_of old.run
  pub follows : (e : Expression) (ts : List (List ℕ)) → Follows old e ts → Follows new e (ts ++ token ∷ [])
  pub left_out : old.is_live ≡ false → new.is_live ≡ false

-- each run is over a tree with the words of its template
abbrev pub AreOver : List Known → List TemplateRun → Type 0
AreOver set runs = (index : ℕ) (run : TemplateRun) (known : Known) → slice_get runs index ≡ Some run
    → slice_get set run.number ≡ Some known → ∥ IsOver run (words_of known) ∥₁

-- the runs of these numbers have taken the tokens, and the others are not live
pub record AreFollowing (set : List Known) (runs : List TemplateRun) (numbers : List ℕ) (ts : List (List ℕ)) : Type 0 where
  pub follow : (index : ℕ) (run : TemplateRun) (known : Known) → slice_get runs index ≡ Some run
      → slice_get set run.number ≡ Some known → Contains numbers run.number → ∥ Follows run (words_of known) ts ∥₁
  pub left_out : (index : ℕ) (run : TemplateRun) → slice_get runs index ≡ Some run
      → ¬ (Contains numbers run.number) → run.is_live ≡ false
