-- A word that begins with a letter, beside those that have it next.
use Rattle.std.proofs.Common.{◌≡◌, ℕ, zero, suc, Bool, true, false, ◌==◌, List, [], ◌∷◌, ◌++◌, ◌⊎◌, inl, inr, refl, sym, ap, ◌∙◌, subst, arith}
use Rattle.lic_words.specs.Words.{Word, blank, blanks}
use Rattle.lic_words.specs.Spelling.{Gap, free, gap_of}
use Rattle.lic_marks.specs.Cores.{Core, WordsOf}
use Rattle.lic_marks.specs.Marks.{Marks, no_marks, shift, join}
use Rattle.lic_marks.specs.Continuations.{Completes, Continues}
use Rattle.lic_marks.specs.Rows.{marks_of}
use Rattle.lic_marks.specs.Representing.{After, Then, AfterAny, each_with, Leads, LeadsOverBlanks}
use Rattle.lic_marks.specs.Deciding.{over_blanks}
use Rattle.lic_marks.specs.States.{HasFirstBlanks}
use Rattle.lic_marks.proofs.Shifting.{Completes-no_marks, shift_sound, shift_complete}
use Rattle.lic_marks.proofs.Representing.{Leads-same, Completes-join, join-left, join-right, RepresentsAtOnce-begin}
use Rattle.lic_marks.proofs.RowSteps.{marks_of-flags_of}
use Rattle.lic_marks.proofs.Lists.{AfterAny-snoc, snoc-AfterAny}
use Rattle.lic_marks.proofs.Deciding.{LeadsOverBlanks-over_blanks}

-- what may follow a letter that a word begins with, after any blanks, or that continues after the gap
abbrev pub Entered : Core → Gap → ℕ → (Word → Type 0) → Word → Type 0
Entered r gap c A v = Then free c (WordsOf r) v ⊎ Then gap c A v

-- no marks, where the gap before the letter is needed
abbrev pub begun : (r : Core) → Bool → Marks r → Marks r
begun r true at_once = no_marks r
begun r false at_once = at_once

module _ (r : Core) (entry : Bool) (at_once after_blanks first : Marks r) (A : Word → Type 0) (s : LeadsOverBlanks r entry at_once after_blanks A)
    (first_sound : (v : Word) → Completes r true first v → (n : ℕ) × WordsOf r (blanks (suc n) ++ v))
    (first_complete : (v : Word) (n : ℕ) → WordsOf r (blanks (suc n) ++ v) → Completes r true first v)
    (c : ℕ) (letter : (c == blank) ≡ false) where
  abbrev both : Bool → Marks r
  both are_words = join r (shift r false true (begun r are_words at_once) c) (shift r true false (join r after_blanks first) c)

  taken : (after enters : Bool) (m : Marks r) (v : Word) → Completes r false (shift r after enters m c) v → Continues r after enters m (c ∷ v)
  taken after enters m v h = shift_sound r after enters m c v (subst (λ b. Completes r b (shift r after enters m c) v) (sym letter) h)

  take : (after enters : Bool) (m : Marks r) (v : Word) → Continues r after enters m (c ∷ v) → Completes r false (shift r after enters m c) v
  take after enters m v h = subst (λ b. Completes r b (shift r after enters m c) v) letter (shift_complete r after enters m c v h)

  at_once_sound : (are_words : Bool) (v : Word) → Continues r false true (begun r are_words at_once) (c ∷ v) → Entered r (gap_of true are_words) c A v
  at_once_sound are_words v (inr h) = inl (0, tt, h.1)
  at_once_sound true v (inl h) = absurd (Completes-no_marks r false (c ∷ v) h)
  at_once_sound false v (inl h) = inr (0, tt, s.now.sound (c ∷ v) (inl h))

  -- any gap that is there may be written as blanks
  may_be_blanks : (are_words : Bool) (n : ℕ) (v : Word) → A (blanks (suc n) ++ c ∷ v) → Then (gap_of true are_words) c A v
  may_be_blanks true n v h = (suc n, omega arith, h)
  may_be_blanks false n v h = (suc n, tt, h)

  after_blanks_sound : (are_words : Bool) (v : Word) → Continues r true false (join r after_blanks first) (c ∷ v) → Entered r (gap_of true are_words) c A v
  after_blanks_sound are_words v (inr h) = absurd (let e = h.0 in cc)
  after_blanks_sound are_words v (inl h) = elim (Completes-join r true after_blanks first (c ∷ v) h) [
    | inl p ↦ let t = s.blanks_sound (c ∷ v) p in inr (may_be_blanks are_words t.0 v t.1)
    | inr p ↦ let t = first_sound (c ∷ v) p in inl (suc t.0, tt, t.1)
  ]

  sound : (are_words : Bool) (v : Word) → Continues r false false (both are_words) v → Entered r (gap_of true are_words) c A v
  sound are_words v (inr h) = absurd (let e = h.0 in cc)
  sound are_words v (inl h) =
      elim (Completes-join r false (shift r false true (begun r are_words at_once) c) (shift r true false (join r after_blanks first) c) v h) [
        | inl p ↦ at_once_sound are_words v (taken false true (begun r are_words at_once) v p)
        | inr p ↦ after_blanks_sound are_words v (taken true false (join r after_blanks first) v p)
      ]

  to_at_once : (are_words : Bool) (v : Word) → Continues r false true (begun r are_words at_once) (c ∷ v) → Completes r false (both are_words) v
  to_at_once are_words v h = join-left r false (shift r false true (begun r are_words at_once) c) (shift r true false (join r after_blanks first) c) v
      (take false true (begun r are_words at_once) v h)

  to_after_blanks : (are_words : Bool) (v : Word) → Completes r true (join r after_blanks first) (c ∷ v) → Completes r false (both are_words) v
  to_after_blanks are_words v h = join-right r false (shift r false true (begun r are_words at_once) c) (shift r true false (join r after_blanks first) c) v
      (take true false (join r after_blanks first) v (inl h))

  -- where one may begin besides, what continued continues
  continues : (v : Word) → Continues r false entry at_once v → Continues r false true at_once v
  continues v (inl h) = inl h
  continues v (inr h) = inr (refl, h.1)

  complete : (are_words : Bool) (v : Word) → Entered r (gap_of true are_words) c A v → Completes r false (both are_words) v
  complete are_words v (inl (zero, a, h)) = to_at_once are_words v (inr (refl, h))
  complete are_words v (inl (suc n, a, h)) = to_after_blanks are_words v (join-right r true after_blanks first (c ∷ v) (first_complete (c ∷ v) n h))
  complete true v (inr (zero, a, h)) = absurd (omega (arith, a))
  complete false v (inr (zero, a, h)) = to_at_once false v (continues (c ∷ v) (s.now.complete (c ∷ v) h))
  complete are_words v (inr (suc n, a, h)) = to_after_blanks are_words v (join-left r true after_blanks first (c ∷ v) (s.blanks_complete (c ∷ v) n h))

  pub Leads-entered : (are_words : Bool) → Leads r false (both are_words) (Entered r (gap_of true are_words) c A)
  Leads-entered are_words = record { sound = sound are_words; complete = λ v h. inl (complete are_words v h) }

-- the same in lists of letters
pub entered_lists : (r : Core) (lists : List (List (Gap × ℕ))) (is_apart are_words : Bool) (c : ℕ) (marks : Marks r) → is_apart ≡ true →
    Leads r false marks (Entered r (gap_of true are_words) c (AfterAny (WordsOf r) lists)) →
    Leads r false marks (AfterAny (WordsOf r) (((free, c) ∷ []) ∷ each_with ((gap_of is_apart are_words, c) ∷ []) lists))
entered_lists r lists true are_words c marks h = Leads-same r false marks (Entered r (gap_of true are_words) c (AfterAny (WordsOf r) lists))
    (AfterAny (WordsOf r) (((free, c) ∷ []) ∷ each_with ((gap_of true are_words, c) ∷ []) lists)) into from
  where
    into : (v : Word) → Entered r (gap_of true are_words) c (AfterAny (WordsOf r) lists) v →
        AfterAny (WordsOf r) (((free, c) ∷ []) ∷ each_with ((gap_of true are_words, c) ∷ []) lists) v
    into v (inl p) = inl p
    into v (inr p) = inr (snoc-AfterAny (WordsOf r) lists (gap_of true are_words) c v p)

    from : (v : Word) → AfterAny (WordsOf r) (((free, c) ∷ []) ∷ each_with ((gap_of true are_words, c) ∷ []) lists) v →
        Entered r (gap_of true are_words) c (AfterAny (WordsOf r) lists) v
    from v (inl p) = inl p
    from v (inr p) = inr (AfterAny-snoc (WordsOf r) lists (gap_of true are_words) c v p)
entered_lists r lists false are_words c marks h = absurd (let never : false ≡ true = h in cc)

-- the marks of such a row
pub first_marks : (r : Core) (row : List Bool) → HasFirstBlanks r row → marks_of r row ≡ over_blanks r true (no_marks r)
first_marks r row h =
    sym (marks_of-flags_of r (marks_of r row) []) ∙ ap (λ flags. marks_of r (flags ++ [])) h ∙ marks_of-flags_of r (over_blanks r true (no_marks r)) []

-- what may follow them
module _ (r : Core) (first : Marks r) (h : first ≡ over_blanks r true (no_marks r)) where
  begins : LeadsOverBlanks r true (no_marks r) first (After (WordsOf r) [])
  begins = subst (λ (m : Marks r). LeadsOverBlanks r true (no_marks r) m (After (WordsOf r) [])) (sym h)
      (LeadsOverBlanks-over_blanks r true (no_marks r) (After (WordsOf r) []) (RepresentsAtOnce-begin r))

  pub first_sound : (v : Word) → Completes r true first v → (n : ℕ) × WordsOf r (blanks (suc n) ++ v)
  first_sound v p = begins.blanks_sound v p

  pub first_complete : (v : Word) (n : ℕ) → WordsOf r (blanks (suc n) ++ v) → Completes r true first v
  first_complete v n p = begins.blanks_complete v n p
