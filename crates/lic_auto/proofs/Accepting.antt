-- Which templates describe the tokens that runs have taken.
use Rattle.std.proofs.Common.{◌≡◌, ℕ, zero, suc, ◌+◌, ◌<◌, ◌≤◌, Bool, true, false, ◌&&◌, not, List, [], ◌∷◌, ◌++◌, length, get_or, Some, None, refl, sym, ap, ◌∙◌, subst, arith}
use Rattle.std.specs.List.{slice_get, Contains, list_all}
use Rattle.std.specs.Bool.{IsTrue}
use Rattle.std.proofs.lemmas.Bool.{cases_lt, false≢true}
use Rattle.std.proofs.lemmas.Option.{none-some, same_Some, slice_get_within}
use Rattle.std.proofs.Math.Logic.{∥∥₁_elim, ⊎_elim}
use mathlib.Core.HLevel.{⊥_prop}
use mathlib.Core.Bool.{Bool-set}
use Rattle.lic_words.specs.Expressions.{Expression}
use Rattle.lic_words.specs.Describing.{IsDescribed}
use Rattle.lic_marks.specs.Deciding.{is_described}
use Rattle.lic_marks.proofs.Deciding.{is_described_sound, is_described_complete}
use Rattle.lic_set.specs.Sets.{Known, words_of}
use Rattle.lic_set.specs.Rising.{IsRising}
use Rattle.lic_set.proofs.RisingLemmas.{rises}
use Rattle.lic_auto.specs.Picked.{IsLeastOf}
use Rattle.lic_auto.specs.TemplateRuns.{AreFollowing, Follows, run_numbers}
use Rattle.lic_auto.specs.declared.template_runs.TemplateRun.{TemplateRun}
use Rattle.lic_auto.proofs.Changing.{at_number, number_there, some_at}
use Rattle.lic_auto.proofs.PickedLemmas.{contains_or_not}

and_left : (a b : Bool) → (a && b) ≡ true → a ≡ true
and_left true b h = refl
and_left false b h = h

and_right : (a b : Bool) → (a && b) ≡ true → b ≡ true
and_right true b h = h
and_right false b h = cc

false_if_not : (b : Bool) → not b ≡ true → b ≡ false
false_if_not true h = cc
false_if_not false h = refl

-- where none is live, each is not
not_live : (runs : List TemplateRun) → list_all (λ (one : TemplateRun). not one.is_live) runs ≡ true → (index : ℕ) (run : TemplateRun)
    → slice_get runs index ≡ Some run → run.is_live ≡ false
not_live [] dead index run there = absurd (none-some run there)
not_live (one ∷ runs) dead zero run there =
    subst (λ (r : TemplateRun). r.is_live ≡ false) (same_Some one run there)
    (false_if_not one.is_live (and_left (not one.is_live) (list_all (λ (r : TemplateRun). not r.is_live) runs) dead))
not_live (one ∷ runs) dead (suc index) run there =
    not_live runs (and_right (not one.is_live) (list_all (λ (r : TemplateRun). not r.is_live) runs) dead) index run there

-- the runs before an index describe nothing that they have taken, where their numbers are not below the first one that is asked for
abbrev pub FailBefore : List TemplateRun → ℕ → ℕ → Type 0
FailBefore runs from end = (index : ℕ) (run : TemplateRun) → index < end → slice_get runs index ≡ Some run → from ≤ run.number
    → (e : Expression) (ts : List (List ℕ)) → Follows run e ts → ¬ (IsDescribed e ts)

-- one run more describes nothing
pub FailBefore-more : (runs : List TemplateRun) (from end : ℕ) (run : TemplateRun) → slice_get runs end ≡ Some run → FailBefore runs from end
    → (from ≤ run.number → (e : Expression) (ts : List (List ℕ)) → Follows run e ts → ¬ (IsDescribed e ts)) → FailBefore runs from (end + 1)
FailBefore-more runs from end run here before fails = λ index one low there.
    ⊎_elim
    (λ (less : index < end). before index one less there)
    (λ (late : end ≤ index).
    let same : index ≡ end = omega (arith, low, late) in
    let is : run ≡ one = same_Some run one (sym here ∙ ap (slice_get runs) (sym same) ∙ there) in
    subst (λ (r : TemplateRun). from ≤ r.number → (e : Expression) (ts : List (List ℕ)) → Follows r e ts → ¬ (IsDescribed e ts)) is fails)
    (cases_lt index end)

module _ (set : List Known) (runs : List TemplateRun) (numbers : List ℕ) (ts : List (List ℕ)) (inner : (k : ℕ) → Contains numbers k → Contains (run_numbers runs) k)
    (following : AreFollowing set runs numbers ts) where
  -- a dead run describes nothing that continues
  pub dead_described : list_all (λ (one : TemplateRun). not one.is_live) runs ≡ true → (more : List (List ℕ)) (k : ℕ) (known : Known)
      → Contains numbers k → slice_get set k ≡ Some known → ¬ (IsDescribed (words_of known) (ts ++ more))
  dead_described dead more k known among is described =
      let (index, inside, there) = inner k among in
      let (run, here, number) = at_number (λ (one : TemplateRun). one.number) runs index k inside there in
      ∥∥₁_elim (following.follow index run known here (ap (slice_get set) number ∙ is) (subst (Contains numbers) (sym number) among)) ⊥_prop
      (λ follows. follows.ended (not_live runs dead index run here) more described)

  module _ (up : IsRising (run_numbers runs) (length set)) (from : ℕ) where
    -- up to an index at which none before was described
    fails : (end : ℕ) → FailBefore runs from end → (k : ℕ) (known : Known) → Contains numbers k → from ≤ k → slice_get set k ≡ Some known
        → ((index : ℕ) (run : TemplateRun) → slice_get runs index ≡ Some run → run.number ≡ k → index < end) → ¬ (IsDescribed (words_of known) ts)
    fails end before k known among least is passed described =
        let (index, inside, there) = inner k among in
        let (run, here, number) = at_number (λ (one : TemplateRun). one.number) runs index k inside there in
        ∥∥₁_elim (following.follow index run known here (ap (slice_get set) number ∙ is) (subst (Contains numbers) (sym number) among)) ⊥_prop
        (λ follows. before index run (passed index run here number) here (omega (arith, number)) (words_of known) ts follows described)

    -- no run accepts
    pub none_accepts : (end : ℕ) → length runs ≤ end → FailBefore runs from end → IsLeastOf set numbers ts from None
    none_accepts end all before = λ top k known among least less is.
        fails end before k known among least is (λ index run here number. omega (arith, slice_get_within runs index run here))

    -- the run at an index accepts, and none before it
    pub accepts_first : (index : ℕ) (run : TemplateRun) → slice_get runs index ≡ Some run → from ≤ run.number → FailBefore runs from index
        → IsTrue run.is_live → ((e : Expression) (us : List (List ℕ)) → Follows run e us → IsDescribed e us)
        → IsLeastOf set numbers ts from (Some run.number)
    accepts_first index run here least before live accepts =
        let (inside, at) = number_there (λ (one : TemplateRun). one.number) runs index run here in
        let (known, is) = some_at set run.number (omega (arith, at, up.below index inside)) in
        let among : Contains numbers run.number =
        ⊎_elim (λ (h : Contains numbers run.number). h) (λ (gone : ¬ (Contains numbers run.number)).
        absurd (false≢true (sym (following.left_out index run here gone) ∙ live)))
        (contains_or_not numbers run.number) in
        let decided : is_described (words_of known) ts ≡ true =
        ∥∥₁_elim (following.follow index run known here is among) (Bool-set _ _)
        (λ follows. is_described_complete (words_of known) ts (accepts (words_of known) ts follows)) in (
          among,
          least,
          (known, is, is_described_sound (words_of known) ts decided),
          λ k one among' least' less is'. fails index before k one among' least' is' (λ at' run' here' number'.
              ⊎_elim (λ (h : at' < index). h) (λ (late : index ≤ at').
              let (inside', is'') = number_there (λ (one : TemplateRun). one.number) runs at' run' here' in
              absurd (⊎_elim
              (λ (past : index < at'). omega (arith, rises (run_numbers runs) (length set) up index at' past inside', at, is'', number', less))
              (λ (same : at' ≤ index). let e : at' ≡ index = omega arith in omega (arith, ap (λ i. get_or (run_numbers runs) i 0) e, at, is'', number', less))
              (cases_lt index at'))) (cases_lt at' index)),
        )
