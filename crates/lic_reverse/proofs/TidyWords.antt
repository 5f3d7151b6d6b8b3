-- Words that are taken back with no two blanks together, and none at the end: tidy words, once none is taken last.
use Rattle.std.proofs.Common.{◌≡◌, ◌⊎◌, ℕ, ◌+◌, ◌*◌, ◌<◌, ◌≤◌, List, [], ◌∷◌, ◌++◌, length, inl, inr, refl, sym, ap, arith, subst, ◌∙◌}
use Rattle.std.proofs.Math.Utf8.{encode}
use Rattle.std.proofs.lemmas.Bool.{cases_eq}
use Rattle.std.proofs.lemmas.Str.{length-encode, len_utf8_bounds}
use Rattle.lic_words.specs.Words.{Word, IsTidy, blank}
use Rattle.lic_tokens.specs.Tokens.{TokenValue}
use Rattle.lic_places.specs.Reads.{Reads, Takes}
use Rattle.lic_reverse.specs.Tidily.{IsTakenBack, IsTakenBefore, Taken, a_blank, a_letter, nothing}
use Rattle.lic_view.proofs.Back.{OverBlank-order}

-- words one after another
pub taken-joined : (u v : Word) (a s b : Taken) → IsTakenBack a u s → IsTakenBack s v b → IsTakenBack a (u ++ v) b
taken-joined [] v a s b first second = subst (λ x. IsTakenBack x v b) (sym first) second
taken-joined (c ∷ u) v a s b first second = (first.0, first.1, taken-joined u v first.0 s b first.2 second)

pub taken-parted : (u v : Word) (a b : Taken) → IsTakenBack a (u ++ v) b → (s : Taken) × IsTakenBack a u s × IsTakenBack s v b
taken-parted [] v a b taken = (a, refl, taken)
taken-parted (c ∷ u) v a b taken =
    let more = taken-parted u v taken.0 b taken.2 in
    (more.0, (taken.0, taken.1, more.1), more.2)

-- where nothing was taken last, nothing was taken
pub nothing-taken : (w : Word) (b : Taken) → IsTakenBack nothing w b → (w ≡ []) × (nothing ≡ b)
nothing-taken [] b taken = (refl, taken)
nothing-taken (c ∷ w) b taken = absurd (never taken.1)
  where
    never : IsTakenBefore nothing c taken.0 → ⊥
    never (inl is) = let e : nothing ≡ a_blank = is.1 in cc
    never (inr is) = let e : nothing ≡ a_letter = is.1 in cc

-- where a blank was taken last, the word begins with it
blank-first : (w : Word) → IsTakenBack a_blank w nothing → (v : Word) × (w ≡ blank ∷ v)
blank-first [] taken = absurd (let e : a_blank ≡ nothing = taken in cc)
blank-first (c ∷ w) taken = by_case taken.1
  where
    by_case : IsTakenBefore a_blank c taken.0 → (v : Word) × (c ∷ w ≡ blank ∷ v)
    by_case (inl is) = (w, ap (λ x. x ∷ w) is.0)
    by_case (inr is) = absurd (let e : a_blank ≡ a_letter = is.1 in cc)

-- a word with no two blanks together, and none at its end, can be taken back
taken-back : (w : Word) → ((u : Word) → w ≡ u ++ blank ∷ [] → ⊥) → ((u v : Word) → w ≡ u ++ blank ∷ blank ∷ v → ⊥) →
    (a : Taken) × IsTakenBack a w nothing
taken-back [] not_last not_two = (nothing, refl)
taken-back (c ∷ w) not_last not_two =
    let more = taken-back w (λ u e. not_last (c ∷ u) (ap (λ x. c ∷ x) e)) (λ u v e. not_two (c ∷ u) v (ap (λ x. c ∷ x) e)) in
    by_case more.0 more.1 (cases_eq c blank)
  where
    by_case : (a : Taken) → IsTakenBack a w nothing → (c ≡ blank) ⊎ ¬ (c ≡ blank) → (a : Taken) × IsTakenBack a (c ∷ w) nothing
    by_case a taken (inr other) = (a_letter, (a, inr (other, refl), taken))
    by_case nothing taken (inl is) = absurd (not_last [] (let e = (nothing-taken w nothing taken).0 in ap (λ x. x ∷ w) is ∙ ap (λ x. blank ∷ x) e))
    by_case a_letter taken (inl is) = (a_blank, (a_letter, inl (is, refl, refl), taken))
    by_case a_blank taken (inl is) =
        let first = blank-first w taken in
        absurd (not_two [] first.0 (ap (λ x. x ∷ w) is ∙ ap (λ x. blank ∷ x) first.1))

-- a tidy word is taken back from where nothing was taken, and no blank is taken last
pub tidy-taken : (w : Word) → IsTidy w → IsTakenBack nothing w nothing ⊎ IsTakenBack a_letter w nothing
tidy-taken w tidy = let back = taken-back w tidy.not_last tidy.not_two in by_case back.0 back.1
  where
    by_case : (a : Taken) → IsTakenBack a w nothing → IsTakenBack nothing w nothing ⊎ IsTakenBack a_letter w nothing
    by_case nothing taken = inl taken
    by_case a_letter taken = inr taken
    by_case a_blank taken = let first = blank-first w taken in absurd (tidy.not_first first.0 first.1)

-- and such a word is tidy
pub taken-tidy : (w : Word) (a : Taken) → (a ≡ a_blank → ⊥) → IsTakenBack a w nothing → IsTidy w
taken-tidy w a other taken = record {
  not_first = λ v e. first v (subst (λ x. IsTakenBack a x nothing) e taken);
  not_last = λ u e. let parted = taken-parted u (blank ∷ []) a nothing (subst (λ x. IsTakenBack a x nothing) e taken) in last parted.0 parted.2.0 parted.2.1 parted.2.2;
  not_two = λ u v e.
      let parted = taken-parted u (blank ∷ blank ∷ v) a nothing (subst (λ x. IsTakenBack a x nothing) e taken) in
      two parted.0 parted.2.0 parted.2.2.0 parted.2.1 parted.2.2.1;
}
  where
    first : (v : Word) → IsTakenBack a (blank ∷ v) nothing → ⊥
    first v taken = by_case taken.1
      where
        by_case : IsTakenBefore a blank taken.0 → ⊥
        by_case (inl is) = other is.1
        by_case (inr is) = is.0 refl

    last : (b s : Taken) → IsTakenBefore b blank s → s ≡ nothing → ⊥
    last b s (inl is) end = let e : nothing ≡ a_letter = sym end ∙ is.2 in cc
    last b s (inr is) end = is.0 refl

    two : (b s t : Taken) → IsTakenBefore b blank s → IsTakenBefore s blank t → ⊥
    two b s t (inr is) second = is.0 refl
    two b s t (inl is) (inr then) = then.0 refl
    two b s t (inl is) (inl then) = let e : a_letter ≡ a_blank = sym is.2 ∙ then.1 in cc

-- ---- how long a word can be

-- twice the place, and one more where no blank was taken last
pub height : Taken → ℕ → ℕ
height nothing p = 2 * p + 1
height a_letter p = 2 * p + 1
height a_blank p = 2 * p

pub height-least : (t : Taken) (p : ℕ) → 2 * p ≤ height t p
unfolding height
height-least nothing p = omega arith
height-least a_letter p = omega arith
height-least a_blank p = omega arith

pub height-most : (t : Taken) (p : ℕ) → height t p ≤ 2 * p + 1
unfolding height
height-most nothing p = omega arith
height-most a_letter p = omega arith
height-most a_blank p = omega arith

letter-long : (c : ℕ) → 0 < length (encode c)
letter-long c = omega (arith, length-encode c, (len_utf8_bounds c).0)

-- each letter or blank comes from a greater height
higher : (tokens : List TokenValue) (s t : Taken) (c p r : ℕ) → IsTakenBefore s c t → Takes tokens p c r → height s p < height t r
unfolding height
higher tokens s t c p r (inl is) (inl over) =
    let forward = OverBlank-order tokens p r over.1 in
    let one : height s p ≡ 2 * p = ap (λ x. height x p) is.1 in
    let other : height t r ≡ 2 * r + 1 = ap (λ x. height x r) is.2 in
    omega arith
higher tokens s t c p r (inl is) (inr letter) = absurd (letter.0 is.0)
higher tokens s t c p r (inr is) (inl over) = absurd (is.0 over.0)
higher tokens s t c p r (inr is) (inr letter) =
    let one : height s p ≡ 2 * p + 1 = ap (λ x. height x p) is.1 in
    let least = height-least t r in
    let more = letter-long c in
    omega (arith, letter.2.0)

-- a word has no more letters than the heights between which it is taken
pub taken-length : (tokens : List TokenValue) (w : Word) (s t : Taken) (p q : ℕ) → IsTakenBack s w t → Reads tokens p w q →
    height s p + length w ≤ height t q
taken-length tokens [] s t p q taken reads =
    let same : height s p ≡ height t q = ap (λ x. height x p) taken ∙ ap (λ x. height t x) reads in omega arith
taken-length tokens (c ∷ w) s t p q taken reads =
    let more = taken-length tokens w taken.0 t reads.0 q taken.2 reads.2 in
    let one = higher tokens s taken.0 c p reads.0 taken.1 reads.1 in
    omega arith
