-- What a state has read, from step to step.
use Rattle.std.proofs.Common.{◌≡◌, ℕ, Bool, true, false, suc, List, [], ◌∷◌, ◌++◌, inl, inr, refl, sym, ap, ◌∙◌, subst}
use Rattle.std.specs.Prelude.{replicate}
use Rattle.lic_words.specs.Words.{Word, blanks}
use Rattle.lic_words.specs.Spelling.{Gap}
use Rattle.lic_marks.specs.Cores.{Core, WordsOf}
use Rattle.lic_marks.specs.Marks.{Marks, no_marks}
use Rattle.lic_marks.specs.Rows.{marks_of}
use Rattle.lic_marks.specs.Continuations.{Completes, Continues}
use Rattle.lic_marks.specs.Representing.{After, AfterAny, Leads, LeadsOverBlanks, LeadsSoFar, RepresentsAtOnce}
use Rattle.lic_marks.proofs.RowSteps.{marks_of-replicate}
use Rattle.lic_marks.proofs.Shifting.{Completes-no_marks}
use Rattle.lic_marks.proofs.Representing.{Leads-same, RepresentsAtOnce-begin}

never : {X : Type 0} → false ≡ true → X
never h = cc

-- what follows any of one list follows that list
pub one_list : (P : Word → Type 0) (letters : List (Gap × ℕ)) (v : Word) → AfterAny P (letters ∷ []) v → After P letters v
one_list P letters v (inl h) = h
one_list P letters v (inr h) = absurd h

-- no mark, and nothing taken
pub begins : (r : Core) (row : List Bool) (n : ℕ) (after_blanks : Marks r) → row ≡ replicate n false →
    LeadsSoFar r true (marks_of r row) after_blanks false (AfterAny (WordsOf r) ([] ∷ []))
begins r row n after_blanks clear =
    let none : no_marks r ≡ marks_of r row = sym (ap (marks_of r) clear ∙ marks_of-replicate r n) in
    record {
      now = Leads-same r true (marks_of r row) (After (WordsOf r) []) (AfterAny (WordsOf r) ([] ∷ [])) (λ v h. inl h) (λ v h. one_list (WordsOf r) [] v h)
          (subst (λ (m : Marks r). RepresentsAtOnce r true m []) none (RepresentsAtOnce-begin r));
      apart = λ e. never e;
    }

module _ (r : Core) (entry : Bool) (at_once after_blanks : Marks r) (A : Word → Type 0) where
  -- no gap is open
  pub without_gap : Leads r entry at_once A → LeadsSoFar r entry at_once after_blanks false A
  without_gap now = record { now = now; apart = λ e. never e }

  -- a gap is open
  pub with_gap : LeadsOverBlanks r entry at_once after_blanks A → LeadsSoFar r entry at_once after_blanks true A
  with_gap both = record { now = both.now; apart = λ _. both }

  -- a gap that is open need not be used
  pub gap_used : (is_open is_used : Bool) → (is_used ≡ true → is_open ≡ true) → LeadsSoFar r entry at_once after_blanks is_open A →
      LeadsSoFar r entry at_once after_blanks is_used A
  gap_used is_open is_used h s = record { now = s.now; apart = λ e. s.apart (h e) }

-- the same set said otherwise
pub LeadsSoFar-same : (r : Core) (entry : Bool) (at_once after_blanks : Marks r) (is_apart : Bool) (A B : Word → Type 0) →
    ((v : Word) → A v → B v) → ((v : Word) → B v → A v) → LeadsSoFar r entry at_once after_blanks is_apart A
    → LeadsSoFar r entry at_once after_blanks is_apart B
LeadsSoFar-same r entry at_once after_blanks is_apart A B f g s = record {
  now = Leads-same r entry at_once A B f g s.now;
  apart = λ e. let both = s.apart e in record {
    now = Leads-same r entry at_once A B f g both.now;
    blanks_sound = λ v h. let t = both.blanks_sound v h in (t.0, f (blanks (suc t.0) ++ v) t.1);
    blanks_complete = λ v n h. both.blanks_complete v n (g (blanks (suc n) ++ v) h);
  };
}

-- nothing continues from a clear row where none may begin
pub none_go_on : (r : Core) (entry : Bool) (row : List Bool) (n : ℕ) → entry ≡ false → row ≡ replicate n false →
    (v : Word) → Continues r false entry (marks_of r row) v → ⊥
none_go_on r entry row n none clear v (inl h) =
    Completes-no_marks r false v (subst (λ (m : Marks r). Completes r false m v) (ap (marks_of r) clear ∙ marks_of-replicate r n) h)
none_go_on r entry row n none clear v (inr h) = never (sym none ∙ h.0)

-- where a set has no words, there are no marks
pub nothing_left : (r : Core) (A : Word → Type 0) → ((v : Word) → A v → ⊥) → Leads r false (no_marks r) A
nothing_left r A none = record {
  sound =
      λ v h. absurd (elim h [ inl p ↦ Completes-no_marks r false v p | inr p ↦ never p.0 ]);
  complete =
      λ v h. absurd (none v h);
}

-- clear rows have read none of no lists
pub cleared : (r : Core) (at_once after_blanks : List Bool) (n m : ℕ) → at_once ≡ replicate n false → after_blanks ≡ replicate m false →
    LeadsSoFar r false (marks_of r at_once) (marks_of r after_blanks) true (AfterAny (WordsOf r) [])
cleared r at_once after_blanks n m e f = with_gap r false (marks_of r at_once) (marks_of r after_blanks) (AfterAny (WordsOf r) []) record {
  now = record { sound = λ v h. absurd (none_go_on r false at_once n refl e v h); complete = λ v h. absurd h };
  blanks_sound = λ v h. absurd (Completes-no_marks r true v (subst (λ (x : Marks r). Completes r true x v) (ap (marks_of r) f ∙ marks_of-replicate r m) h));
  blanks_complete = λ v n h. absurd h;
}
