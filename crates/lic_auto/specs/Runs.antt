-- Which tokens a run over templates of a set has taken, and what it has counted.
use Rattle.std.specs.Prelude.{◌≡◌, ℕ, ◌<◌, ◌≤◌, Bool, not, List, Option, Some, None, Contains}
use Rattle.std.specs.List.{slice_get, list_all}
use Rattle.lic_words.specs.Describing.{IsDescribed}
use Rattle.lic_set.specs.Sets.{Known, words_of}
use Rattle.lic_auto.specs.TemplateRuns.{AreFollowing, run_numbers}
use Rattle.lic_auto.specs.declared.run.Run.{Run}

-- the templates
abbrev pub set_of : Run → List Known
set_of run = run.set.now

-- the numbers of its templates
abbrev pub numbers_of : Run → List ℕ
numbers_of run = run_numbers run.runs.items

-- The run has taken these tokens with the templates of these numbers, which are some of its own; no other one is live.
pub record RunHasTakenAmong (run : Run) (numbers : List ℕ) (ts : List (List ℕ)) : Type 0 where
  pub some : (k : ℕ) → Contains numbers k → Contains (numbers_of run) k
  pub runs : AreFollowing (set_of run) run.runs.items numbers ts

-- the run has taken these tokens with all of its templates
abbrev pub RunHasTaken : Run → List (List ℕ) → Type 0
RunHasTaken run ts = RunHasTakenAmong run (numbers_of run) ts

-- the steps that were counted
abbrev pub steps_of : Run → ℕ
steps_of run = run.steps

-- no template is live
abbrev pub is_dead : Run → Bool
is_dead run = list_all (λ one. not one.is_live) run.runs.items

-- no template of these numbers describes the tokens
abbrev pub NoneDescribes : List Known → List (List ℕ) → ℕ → ℕ → Type 0
NoneDescribes set ts from end =
    (k : ℕ) (known : Known) → from ≤ k → k < end → slice_get set k ≡ Some known → ¬ (IsDescribed (words_of known) ts)

-- the least number, from this one on, of a template that describes the tokens
abbrev pub IsLeastDescribing : List Known → List (List ℕ) → ℕ → Option ℕ → Type 0
IsLeastDescribing set ts from None = (end : ℕ) → NoneDescribes set ts from end
IsLeastDescribing set ts from (Some k) =
    (from ≤ k) × ((known : Known) × (slice_get set k ≡ Some known) × IsDescribed (words_of known) ts)
    × NoneDescribes set ts from k
