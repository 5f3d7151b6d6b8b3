-- Going back over one letter of a pattern, by what was taken last, and what a tidy word leads to.
use Rattle.std.proofs.Common.{◌≡◌, ◌⊎◌, ℕ, Bool, true, List, [], ◌∷◌, ◌++◌, inl, inr, refl, sym, subst, ◌∙◌}
use Rattle.lic_words.specs.Words.{Word, IsTidy, blank}
use Rattle.lic_tokens.specs.Tokens.{TokenValue}
use Rattle.lic_places.specs.Reads.{Reads}
use Rattle.lic_spans.specs.declared.span.PlaceSpan.{PlaceSpan}
use Rattle.lic_view.specs.PlaceSets.{ArePlaced, Reaches}
use Rattle.lic_view.specs.Backward.{IsBack}
use Rattle.lic_reverse.specs.Passing.{IsPassing}
use Rattle.lic_reverse.specs.Tidily.{IsTakenBack, IsTakenBefore, IsTidyBack, Taken, a_blank, a_letter, nothing}
use Rattle.lic_view.proofs.Placed.{ArePlaced-append, ArePlaced-nil, Reaches-append, Reaches-append_left, Reaches-append_right, Reaches-nil}
use Rattle.lic_reverse.proofs.TidyWords.{taken-tidy, tidy-taken}
use Rattle.lic_reverse.proofs.TidyBack.{HasBetter, tidy-lists}
use Rattle.lic_reverse.proofs.TakenCases.{by_taken}
use Rattle.lic_view.specs.declared.sets.keep.Keep.{Keep}

-- one letter that passes
abbrev pub IsOne : (ℕ → Bool) → Word → Type 0
IsOne passes w = (c : ℕ) × (passes c ≡ true) × (w ≡ c ∷ [])

-- a blank, if it passes
abbrev pub IsPassingBlank : (ℕ → Bool) → Word → Type 0
IsPassingBlank passes w = (passes blank ≡ true) × (w ≡ blank ∷ [])

pub better-left : (keep : Keep) (tokens : List TokenValue) (xs ys : List PlaceSpan) (p l : ℕ) → HasBetter keep tokens xs p l → HasBetter keep tokens (xs ++ ys) p l
better-left keep tokens xs ys p l c = (c.0, c.1, Reaches-append_left tokens xs ys p c.0 c.2)

pub better-right : (keep : Keep) (tokens : List TokenValue) (xs ys : List PlaceSpan) (p l : ℕ) → HasBetter keep tokens ys p l → HasBetter keep tokens (xs ++ ys) p l
better-right keep tokens xs ys p l c = (c.0, c.1, Reaches-append_right tokens xs ys p c.0 c.2)

module _ (keep : Keep) (tokens : List TokenValue) (passes : ℕ → Bool) (xs : Taken → List PlaceSpan) (one other third fourth : List PlaceSpan) where
  -- the lists that one letter leads to
  abbrev gathered : Taken → List PlaceSpan
  gathered nothing = []
  gathered a_letter = (one ++ other) ++ third
  gathered a_blank = fourth

  module _ (first : IsBack keep tokens (IsPassing passes) (xs nothing) one) (second : IsBack keep tokens (IsPassing passes) (xs a_letter) other)
      (last : IsBack keep tokens (IsPassing passes) (xs a_blank) third) (blanks : IsBack keep tokens (IsPassingBlank passes) (xs a_letter) fourth) where
    abbrev Led : Taken → ℕ → ℕ → Type 0
    Led s p l = (t : Taken) × (q : ℕ) × Reaches tokens (xs t) q l × (w : Word) × IsOne passes w × IsTakenBack s w t × Reads tokens p w q

    -- from the places that one list leads to
    from_letters : (t : Taken) (p l : ℕ) → (q : ℕ) × Reaches tokens (xs t) q l × (w : Word) × IsPassing passes w × Reads tokens p w q → Led a_letter p l
    from_letters t p l a =
        (t, a.0, a.1, a.2, (a.3.0, a.3.2, a.3.3), subst (λ x. IsTakenBack a_letter x t) (sym a.3.3) (t, inr (a.3.1, refl), refl), a.4)

    sound : (s : Taken) (p l : ℕ) → Reaches tokens (gathered s) p l → Led s p l
    sound nothing p l r = absurd (Reaches-nil tokens p l r)
    sound a_blank p l r =
        let a = blanks.sound p l r in
        (a_letter, a.0, a.1, a.2, (blank, a.3.0, a.3.1), subst (λ x. IsTakenBack a_blank x a_letter) (sym a.3.1) (a_letter, inl (refl, refl, refl), refl), a.4)
    sound a_letter p l r = by_part (Reaches-append tokens (one ++ other) third p l r)
      where
        by_first : Reaches tokens one p l ⊎ Reaches tokens other p l → Led a_letter p l
        by_first (inl r) = from_letters nothing p l (first.sound p l r)
        by_first (inr r) = from_letters a_letter p l (second.sound p l r)

        by_part : Reaches tokens (one ++ other) p l ⊎ Reaches tokens third p l → Led a_letter p l
        by_part (inl r) = by_first (Reaches-append tokens one other p l r)
        by_part (inr r) = from_letters a_blank p l (last.sound p l r)

    to_letters : (t : Taken) (p q l : ℕ) (w : Word) → Reaches tokens (xs t) q l → IsPassing passes w → Reads tokens p w q → HasBetter keep tokens (gathered a_letter) p l
    to_letters nothing p q l w e is reads = better-left keep tokens (one ++ other) third p l (better-left keep tokens one other p l (first.complete p q l w e is reads))
    to_letters a_letter p q l w e is reads = better-left keep tokens (one ++ other) third p l (better-right keep tokens one other p l (second.complete p q l w e is reads))
    to_letters a_blank p q l w e is reads = better-right keep tokens (one ++ other) third p l (last.complete p q l w e is reads)

    complete : (s t : Taken) (p q l : ℕ) (w : Word) → Reaches tokens (xs t) q l → IsOne passes w → IsTakenBack s w t → Reads tokens p w q →
        HasBetter keep tokens (gathered s) p l
    complete s t p q l w e is taken reads = by_case (subst (λ x. IsTakenBack s x t) is.2 taken)
      where
        by_case : IsTakenBack s (is.0 ∷ []) t → HasBetter keep tokens (gathered s) p l
        by_case now = by_last now.1
          where
            by_last : IsTakenBefore s is.0 now.0 → HasBetter keep tokens (gathered s) p l
            by_last (inl at) =
                let from = subst (λ x. Reaches tokens (xs x) q l) (sym now.2 ∙ at.2) e in
                let it : IsPassingBlank passes w = (subst (λ x. passes x ≡ true) at.0 is.1, subst (λ x. w ≡ x ∷ []) at.0 is.2) in
                subst (λ x. HasBetter keep tokens (gathered x) p l) (sym at.1) (blanks.complete p q l w from it reads)
            by_last (inr at) =
                subst (λ x. HasBetter keep tokens (gathered x) p l) (sym at.1) (to_letters t p q l w e (is.0, at.0, is.1, is.2) reads)

    -- one letter that passes leads to these lists
    pub tidy-passing : (ys : Taken → List PlaceSpan) → ys nothing ≡ [] → ys a_letter ≡ (one ++ other) ++ third → ys a_blank ≡ fourth →
        IsTidyBack keep tokens (IsOne passes) xs ys
    tidy-passing ys none letters blank_ones =
        tidy-lists keep tokens (IsOne passes) (λ t q l. Reaches tokens (xs t) q l) gathered ys
        (by_taken (λ s. ys s ≡ gathered s) none letters blank_ones) (record {
          placed = by_taken (λ s. ArePlaced tokens (gathered s)) (ArePlaced-nil tokens)
              (ArePlaced-append tokens (one ++ other) third (ArePlaced-append tokens one other first.placed second.placed) last.placed) blanks.placed;
          sound = λ s p l r. sound s p l r;
          complete = λ s t p q l w e is taken reads. complete s t p q l w e is taken reads;
        })

-- From where nothing was taken a tidy word leads to the places where no blank is taken last.
pub tidy-answer : (keep : Keep) (tokens : List TokenValue) (P : Word → Type 0) (spans answer : List PlaceSpan) (xs ys : Taken → List PlaceSpan) →
    xs nothing ≡ spans → xs a_letter ≡ [] → xs a_blank ≡ [] → answer ≡ ys nothing ++ ys a_letter →
    IsTidyBack keep tokens P xs ys → IsBack keep tokens (λ w. P w × IsTidy w) spans answer
tidy-answer keep tokens P spans answer xs ys begin no_letter no_blank is back = subst (λ x. IsBack keep tokens Words spans x) (sym is) (record {
  placed = ArePlaced-append tokens (ys nothing) (ys a_letter) (back.placed nothing) (back.placed a_letter);
  sound = λ p l r. by_part p l (Reaches-append tokens (ys nothing) (ys a_letter) p l r);
  complete = λ p q l w e has reads. complete p q l w e has.0 (tidy-taken w has.1) reads;
})
  where
    Words : Word → Type 0
    Words w = P w × IsTidy w

    Led : ℕ → ℕ → Type 0
    Led p l = (q : ℕ) × Reaches tokens spans q l × (w : Word) × Words w × Reads tokens p w q

    none : (t : Taken) → xs t ≡ [] → (q l : ℕ) → Reaches tokens (xs t) q l → ⊥
    none t empty q l r = Reaches-nil tokens q l (subst (λ x. Reaches tokens x q l) empty r)

    from : (s : Taken) (p l : ℕ) → (s ≡ a_blank → ⊥) →
        (t : Taken) (q : ℕ) → Reaches tokens (xs t) q l → (w : Word) → P w → IsTakenBack s w t → Reads tokens p w q → Led p l
    from s p l dark nothing q r w has taken reads = (q, subst (λ x. Reaches tokens x q l) begin r, w, (has, taken-tidy w s dark taken), reads)
    from s p l dark a_letter q r w has taken reads = absurd (none a_letter no_letter q l r)
    from s p l dark a_blank q r w has taken reads = absurd (none a_blank no_blank q l r)

    by_part : (p l : ℕ) → Reaches tokens (ys nothing) p l ⊎ Reaches tokens (ys a_letter) p l → Led p l
    by_part p l (inl r) = let a = back.sound nothing p l r in
        from nothing p l (λ same. let e : nothing ≡ a_blank = same in cc) a.0 a.1 a.2 a.3 a.4 a.5 a.6
    by_part p l (inr r) = let a = back.sound a_letter p l r in
        from a_letter p l (λ same. let e : a_letter ≡ a_blank = same in cc) a.0 a.1 a.2 a.3 a.4 a.5 a.6

    complete : (p q l : ℕ) (w : Word) → Reaches tokens spans q l → P w → IsTakenBack nothing w nothing ⊎ IsTakenBack a_letter w nothing → Reads tokens p w q →
        HasBetter keep tokens (ys nothing ++ ys a_letter) p l
    complete p q l w e has (inl taken) reads =
        better-left keep tokens (ys nothing) (ys a_letter) p l
        (back.complete nothing nothing p q l w (subst (λ x. Reaches tokens x q l) (sym begin) e) has taken reads)
    complete p q l w e has (inr taken) reads =
        better-right keep tokens (ys nothing) (ys a_letter) p l
        (back.complete a_letter nothing p q l w (subst (λ x. Reaches tokens x q l) (sym begin) e) has taken reads)
