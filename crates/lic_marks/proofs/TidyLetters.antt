-- Tidy words, letter by letter.
use Rattle.std.proofs.Common.{◌≡◌, ℕ, Bool, true, false, ◌==◌, ◌&&◌, [], ◌∷◌, ◌++◌, refl}
use Rattle.std.proofs.Common.{eq-eqb, eqb-true}
use Rattle.lic_words.specs.Words.{Word, IsTidy, blank}
use Rattle.lic_marks.specs.Continuations.{IsTidyAfter}
use Rattle.lic_marks.proofs.Cuts.{and_left, and_right}

-- it does not end in a blank, and has no two together
record Tail (w : Word) : Type 0 where
  not_last : (u : Word) → w ≡ u ++ blank ∷ [] → ⊥
  not_two : (u v : Word) → w ≡ u ++ blank ∷ blank ∷ v → ⊥

not_false : (b : Bool) → (b ≡ true → ⊥) → b ≡ false
not_false true h = absurd (h refl)
not_false false h = refl

no_blank : (c : ℕ) → (c == blank) ≡ false → c ≡ blank → ⊥
no_blank c h e = let t = eq-eqb c blank e in cc

tail_one : (c : ℕ) → (c == blank) ≡ false → Tail (c ∷ [])
tail_one c h = record { not_last = last; not_two = two }
  where
    last : (u : Word) → c ∷ [] ≡ u ++ blank ∷ [] → ⊥
    last [] e = no_blank c h cc
    last (d ∷ []) e = cc
    last (d ∷ f ∷ u) e = cc

    two : (u v : Word) → c ∷ [] ≡ u ++ blank ∷ blank ∷ v → ⊥
    two [] v e = cc
    two (d ∷ []) v e = cc
    two (d ∷ f ∷ u) v e = cc

tail_more : (c d : ℕ) (v : Word) → ((c == blank) && (d == blank)) ≡ false → Tail (d ∷ v) → Tail (c ∷ d ∷ v)
tail_more c d v h t = record { not_last = last; not_two = two }
  where
    last : (u : Word) → c ∷ d ∷ v ≡ u ++ blank ∷ [] → ⊥
    last [] e = cc
    last (x ∷ u) e = t.not_last u cc

    both : c ≡ blank → d ≡ blank → ⊥
    both p q = let s = eq-eqb c blank p in let r = eq-eqb d blank q in cc

    two : (u w : Word) → c ∷ d ∷ v ≡ u ++ blank ∷ blank ∷ w → ⊥
    two [] w e = let p : c ≡ blank = cc in let q : d ≡ blank = cc in both p q
    two (x ∷ u) w e = t.not_two u w cc

tail_from : (c : ℕ) (v : Word) → IsTidyAfter (c == blank) v → Tail (c ∷ v)
tail_from c [] h = tail_one c h
tail_from c (d ∷ v) h = tail_more c d v h.0 (tail_from d v h.1)

pub tidy_nil : IsTidy []
tidy_nil = record { not_first = λ v e. cc; not_last = last; not_two = two }
  where
    last : (u : Word) → [] ≡ u ++ blank ∷ [] → ⊥
    last [] e = cc
    last (x ∷ u) e = cc

    two : (u w : Word) → [] ≡ u ++ blank ∷ blank ∷ w → ⊥
    two [] w e = cc
    two (x ∷ u) w e = cc

pub tidy_cons : (c : ℕ) (v : Word) → (c == blank) ≡ false → IsTidyAfter (c == blank) v → IsTidy (c ∷ v)
tidy_cons c v h t =
    let rest : Tail (c ∷ v) = tail_from c v t in
    record { not_first = λ w e. no_blank c h cc; not_last = rest.not_last; not_two = rest.not_two }

eq_blank : (c : ℕ) → (c == blank) ≡ true → c ≡ blank
eq_blank c h = eqb-true c blank h

after_tail : (c : ℕ) (v : Word) → Tail (c ∷ v) → IsTidyAfter (c == blank) v
after_tail c [] t = not_false (c == blank) (λ h. let e = eq_blank c h in t.not_last [] cc)
after_tail c (d ∷ v) t = (
  not_false ((c == blank) && (d == blank)) (λ h.
      let p = eq_blank c (and_left (c == blank) (d == blank) h) in
      let q = eq_blank d (and_right (c == blank) (d == blank) h) in
      t.not_two [] v cc),
  after_tail d v (record { not_last = λ u e. t.not_last (c ∷ u) cc; not_two = λ u w e. t.not_two (c ∷ u) w cc }),
)

pub tidy_first : (c : ℕ) (v : Word) → IsTidy (c ∷ v) → (c == blank) ≡ false
tidy_first c v t = not_false (c == blank) (λ h. let e = eq_blank c h in t.not_first v cc)

pub tidy_rest : (c : ℕ) (v : Word) → IsTidy (c ∷ v) → IsTidyAfter (c == blank) v
tidy_rest c v t = after_tail c v (record { not_last = t.not_last; not_two = t.not_two })
