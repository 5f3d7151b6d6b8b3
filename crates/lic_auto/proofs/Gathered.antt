-- The numbers of live templates, gathered one after another.
use Rattle.std.proofs.Common.{◌≡◌, ℕ, ◌+◌, ◌<◌, ◌≤◌, ◌↔◌, ◌⊎◌, inl, inr, Bool, true, false, IsTrue, List, [], ◌∷◌, ◌++◌, length, get_or, Some, sym, ap, ◌∙◌, subst, arith}
use Rattle.std.specs.List.{slice_get, Contains}
use Rattle.std.proofs.Math.Logic.{⊎_elim, ∥∥₁_map, ∥∥₁_elim}
use mathlib.Core.HLevel.{⊥_prop}
use Rattle.std.proofs.lemmas.Bool.{false≢true, cases_lt}
use Rattle.std.proofs.lemmas.Option.{same_Some}
use Rattle.std.proofs.lemmas.List.Elements.{Contains-push, Contains-push_cases, Contains-append_left}
use Rattle.lic_words.specs.Expressions.{Expression}
use Rattle.lic_words.specs.Reversal.{reversed_expression}
use Rattle.lic_marks.specs.Unanchored.{DescribesEnd, HasReadEnds}
use Rattle.lic_set.specs.Rising.{IsRising}
use Rattle.lic_set.proofs.RisingLemmas.{rises, IsRising-push}
use Rattle.lic_set.specs.Sets.{Known, words_of}
use Rattle.lic_auto.specs.TemplateBacks.{HaveTakenBackward, IsFoundBefore, back_numbers}
use Rattle.lic_auto.specs.declared.template_backs.TemplateBack.{TemplateBack}
use Rattle.lic_auto.proofs.Changing.{number_there, some_at}
use Rattle.lic_auto.proofs.Ends.{untruncated_end}

-- the list has the numbers of the matchers before an index that are found, in rising order
pub record AreGathered (backs : List TemplateBack) (found : List ℕ) (end : ℕ) : Type 0 where
  pub rising : (bound : ℕ) → IsRising (back_numbers backs) bound → IsRising found bound
  pub known : (n : ℕ) → Contains found n → (index : ℕ) × (index < end) × (get_or (back_numbers backs) index 0 ≡ n)
  pub exactly : (set : List Known) (ts : List (List ℕ)) → IsRising (back_numbers backs) (length set) → HaveTakenBackward set backs ts → (n : ℕ) → Contains found n ↔ IsFoundBefore set backs end ts n

module _ (set : List Known) (backs : List TemplateBack) (ts : List (List ℕ)) (end n : ℕ) where
  Found-more : IsFoundBefore set backs end ts n → IsFoundBefore set backs (end + 1) ts n
  Found-more (index, low, one, known) = (index, omega (arith, low), one, known)

  -- what is found before the next index is found before this one, or at it
  Found-cases : (s : TemplateBack) → slice_get backs end ≡ Some s → IsFoundBefore set backs (end + 1) ts n → IsFoundBefore set backs end ts n
      ⊎ ((s.number ≡ n) × ((known : Known) × (slice_get set n ≡ Some known) × DescribesEnd (reversed_expression (words_of known)) ts))
  Found-cases s here (index, low, (one, there, number), known) =
      ⊎_elim
      (λ (before : index < end). inl (index, before, (one, there, number), known))
      (λ (late : end ≤ index).
      let same : index ≡ end = omega (arith, low, late) in
      let is : s ≡ one = same_Some s one (sym here ∙ ap (slice_get backs) (sym same) ∙ there) in
      inr (ap (λ (x : TemplateBack). x.number) is ∙ number, known))
      (cases_lt index end)

module _ (backs : List TemplateBack) (found : List ℕ) (end : ℕ) (s : TemplateBack) (here : slice_get backs end ≡ Some s) (b : Bool)
    (answers : (e : Expression) (ts : List (List ℕ)) → HasReadEnds s.matcher e ts → IsTrue b ↔ DescribesEnd e ts) (g : AreGathered backs found end) where
  -- the matcher at the index accepts nothing
  pub Gathered-skip : b ≡ false → AreGathered backs found (end + 1)
  Gathered-skip rejects = record {
    rising = g.rising;
    known = λ n h. let (index, low, is) = g.known n h in (index, omega (arith, low), is);
    exactly = λ set ts up sought n. (
      λ h. Found-more set backs ts end n ((g.exactly set ts up sought n).0 h),
      λ f. ⊎_elim
          (λ before. (g.exactly set ts up sought n).1 before)
          (λ (number, (known, there, described)). absurd (∥∥₁_elim (sought end s known here (ap (slice_get set) number ∙ there)) ⊥_prop
          (λ seeks. false≢true (sym rejects ∙ (answers (reversed_expression (words_of known)) ts seeks).1 described))))
          (Found-cases set backs ts end n s here f),
    );
  }

  -- it accepts, and its number is put to the end
  pub Gathered-add : b ≡ true → AreGathered backs (found ++ s.number ∷ []) (end + 1)
  Gathered-add accepts =
      let (inside, at) = number_there (λ (x : TemplateBack). x.number) backs end s here in
      record {
        rising = λ bound up.
            let less : (x : ℕ) → Contains found x → x < s.number = λ x h.
            let (index, low, is) = g.known x h in omega (arith, rises (back_numbers backs) bound up index end low inside, is, at) in
            IsRising-push found bound s.number bound (g.rising bound up) (omega arith) less (omega (arith, at, up.below end inside));
        known = λ n h. ⊎_elim
            (λ before. let (index, low, is) = g.known n before in (index, omega (arith, low), is))
            (λ (same : s.number ≡ n). (end, omega arith, at ∙ same))
            (Contains-push_cases found s.number n h);
        exactly = λ set ts up sought n. (
          λ h. ⊎_elim
              (λ before. Found-more set backs ts end n ((g.exactly set ts up sought n).0 before))
              (λ (same : s.number ≡ n).
              let (known, there) = some_at set s.number (omega (arith, at, up.below end inside)) in (
                end,
                omega arith,
                (s, here, same),
                (
                  known,
                  ap (slice_get set) (sym same) ∙ there,
                  untruncated_end (reversed_expression (words_of known)) ts
                      (∥∥₁_map (sought end s known here there) (λ seeks. (answers (reversed_expression (words_of known)) ts seeks).0 accepts)),
                ),
              ))
              (Contains-push_cases found s.number n h),
          λ f. ⊎_elim
              (λ before. Contains-append_left found (s.number ∷ []) n ((g.exactly set ts up sought n).1 before))
              (λ (is, rest). subst (Contains (found ++ s.number ∷ [])) is (Contains-push found s.number))
              (Found-cases set backs ts end n s here f),
        );
      }
