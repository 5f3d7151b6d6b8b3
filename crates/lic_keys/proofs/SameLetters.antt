-- A text has its letters between the blanks at its edges in one way alone.
use Rattle.std.proofs.Common.{◌≡◌, ℕ, ◌+◌, ◌<◌, Bool, true, false, List, [], ◌∷◌, ◌++◌, length, get_or, refl, sym, ◌∙◌, subst, arith, append-nil, length-append, eq-eqb, IsTrue}
use Rattle.std.proofs.lemmas.List.{append_cancel_right, get_or_at}
use Rattle.lic_phrases.specs.Spelling.{blank_if}
use Rattle.lic_places.specs.Places.{IsAfterBlank, is_blank_at}
use Rattle.lic_places.specs.Texts.{AreEdges}

-- what comes after the first blank, where it does not begin with another
after-same : (f g : Bool) (xs ys : List ℕ) → blank_if f ++ xs ≡ blank_if g ++ ys → ¬ (IsTrue (is_blank_at xs 0)) → ¬ (IsTrue (is_blank_at ys 0)) →
    xs ≡ ys
after-same true true xs ys same begins other = cc
after-same false false xs ys same begins other = same
after-same true false xs ys same begins other = absurd (other (subst (λ l. IsTrue (is_blank_at l 0)) same refl))
after-same false true xs ys same begins other = absurd (begins (subst (λ l. IsTrue (is_blank_at l 0)) (sym same) refl))

-- a blank at the end
blank-last : (xs : List ℕ) → IsAfterBlank (xs ++ 0x20 ∷ []) (length (xs ++ 0x20 ∷ []))
blank-last xs =
    let size : length (xs ++ 0x20 ∷ []) ≡ length xs + 1 = length-append xs (0x20 ∷ []) in
    (length xs, omega arith, eq-eqb (get_or (xs ++ 0x20 ∷ []) (length xs) 0) 0x20 (get_or_at xs 0x20 [] 0 (length xs) refl))

-- what comes before the blank at the end, where it does not end with another
before-same : (e h : Bool) (xs ys : List ℕ) → xs ++ blank_if e ≡ ys ++ blank_if h → ¬ (IsAfterBlank xs (length xs)) →
    ¬ (IsAfterBlank ys (length ys)) → xs ≡ ys
before-same true true xs ys same ends other = append_cancel_right xs ys (0x20 ∷ []) same
before-same false false xs ys same ends other = sym (append-nil xs) ∙ same ∙ append-nil ys
before-same true false xs ys same ends other = absurd (other (subst (λ l. IsAfterBlank l (length l)) (same ∙ append-nil ys) (blank-last xs)))
before-same false true xs ys same ends other = absurd (ends (subst (λ l. IsAfterBlank l (length l)) (sym same ∙ append-nil xs) (blank-last ys)))

-- letters begin with no blank, whatever comes after them
begins-same : (xs ys : List ℕ) → 0 < length xs → is_blank_at (xs ++ ys) 0 ≡ is_blank_at xs 0
begins-same [] ys some = absurd (omega arith)
begins-same (x ∷ xs) ys some = refl

pub letters-same : (text xs ys : List ℕ) (f e g h : Bool) → AreEdges text f xs e → AreEdges text g ys h → 0 < length xs → 0 < length ys → xs ≡ ys
letters-same text xs ys f e g h edges others some more =
    let one = edges.are some in
    let other = others.are more in
    before-same e h xs ys
    (after-same f g (xs ++ blank_if e) (ys ++ blank_if h) (sym edges.parts ∙ others.parts)
    (subst (λ b. ¬ (IsTrue b)) (sym (begins-same xs (blank_if e) some)) one.front)
    (subst (λ b. ¬ (IsTrue b)) (sym (begins-same ys (blank_if h) more)) other.front))
    one.end other.end
