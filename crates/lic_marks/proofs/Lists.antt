-- What may follow lists of letters, all together.
use Rattle.std.proofs.Common.{◌≡◌, ℕ, List, [], ◌∷◌, ◌++◌, ◌⊎◌, inl, inr, refl, ap, append_assoc}
use Rattle.lic_words.specs.Words.{Word, blanks}
use Rattle.lic_words.specs.Spelling.{Gap}
use Rattle.lic_marks.specs.Representing.{After, Then, AfterAny, each_with}
use Rattle.lic_marks.proofs.Representing.{After-snoc, snoc-After}

abbrev Letters : Type 0
Letters = List (Gap × ℕ)

-- one letter more at the end of each list
pub AfterAny-snoc : (P : Word → Type 0) (lists : List Letters) (g : Gap) (c : ℕ) (v : Word) →
    AfterAny P (each_with ((g, c) ∷ []) lists) v → Then g c (AfterAny P lists) v
AfterAny-snoc P [] g c v h = absurd h
AfterAny-snoc P (l ∷ lists) g c v (inl h) = let t = After-snoc l P g c v h in (t.0, t.1, inl t.2)
AfterAny-snoc P (l ∷ lists) g c v (inr h) = let t = AfterAny-snoc P lists g c v h in (t.0, t.1, inr t.2)

pub snoc-AfterAny : (P : Word → Type 0) (lists : List Letters) (g : Gap) (c : ℕ) (v : Word) →
    Then g c (AfterAny P lists) v → AfterAny P (each_with ((g, c) ∷ []) lists) v
snoc-AfterAny P [] g c v (n, a, h) = h
snoc-AfterAny P (l ∷ lists) g c v (n, a, inl h) = inl (snoc-After l P g c v n a h)
snoc-AfterAny P (l ∷ lists) g c v (n, a, inr h) = inr (snoc-AfterAny P lists g c v (n, a, h))

pub each_with-append : (more last : Letters) (lists : List Letters) → each_with last (each_with more lists) ≡ each_with (more ++ last) lists
each_with-append more last [] = refl
each_with-append more last (l ∷ lists) = λ i. append_assoc l more last i ∷ each_with-append more last lists i

pub each_with-none : (lists : List Letters) → lists ≡ each_with [] lists
each_with-none [] = refl
each_with-none (l ∷ lists) = λ i. append-none l i ∷ each_with-none lists i
  where
    append-none : (l : Letters) → l ≡ l ++ []
    append-none [] = refl
    append-none (p ∷ l) = ap (λ x. p ∷ x) (append-none l)

-- letters written in two parts
pub After-append : (letters more : Letters) (P : Word → Type 0) (v : Word) → After P (letters ++ more) v → After (After P letters) more v
After-append [] more P v h = h
After-append (p ∷ letters) more P v h = After-append letters more (Then p.0 p.1 P) v h

pub append-After : (letters more : Letters) (P : Word → Type 0) (v : Word) → After (After P letters) more v → After P (letters ++ more) v
append-After [] more P v h = h
append-After (p ∷ letters) more P v h = append-After letters more (Then p.0 p.1 P) v h

-- what follows in a set follows in a greater one
pub After-map : (letters : Letters) (P Q : Word → Type 0) → ((v : Word) → P v → Q v) → (v : Word) → After P letters v → After Q letters v
After-map [] P Q f v h = f v h
After-map (p ∷ letters) P Q f v h =
    After-map letters (Then p.0 p.1 P) (Then p.0 p.1 Q) (λ u t. (t.0, t.1, f (blanks t.0 ++ p.1 ∷ u) t.2)) v h

-- what follows in a set is the end of a word of the set
pub After-some : (letters : Letters) (P : Word → Type 0) (v : Word) → After P letters v → (u : Word) × P u
After-some [] P v h = (v, h)
After-some (p ∷ letters) P v h =
    let t = After-some letters (Then p.0 p.1 P) v h in (blanks t.1.0 ++ p.1 ∷ t.0, t.1.2)

-- what follows in one of many sets
pub After-pair : (letters : Letters) (F : ℕ → Word → Type 0) (v : Word) → After (λ u. (k : ℕ) × F k u) letters v → (k : ℕ) × After (F k) letters v
After-pair [] F v h = h
After-pair (p ∷ letters) F v h =
    After-pair letters (λ k. Then p.0 p.1 (F k)) v
    (After-map letters (Then p.0 p.1 (λ u. (k : ℕ) × F k u)) (λ u. (k : ℕ) × Then p.0 p.1 (F k) u) (λ u t. (t.2.0, (t.0, t.1, t.2.1))) v h)

-- what follows in the one set or the other
After-either : (letters : Letters) (P Q : Word → Type 0) (v : Word) → After (λ u. P u ⊎ Q u) letters v → After P letters v ⊎ After Q letters v
After-either [] P Q v h = h
After-either (p ∷ letters) P Q v h =
    After-either letters (Then p.0 p.1 P) (Then p.0 p.1 Q) v
    (After-map letters (Then p.0 p.1 (λ u. P u ⊎ Q u)) (λ u. Then p.0 p.1 P u ⊎ Then p.0 p.1 Q u) apart v h)
  where
    apart : (u : Word) → Then p.0 p.1 (λ w. P w ⊎ Q w) u → Then p.0 p.1 P u ⊎ Then p.0 p.1 Q u
    apart u (n, a, inl h) = inl (n, a, h)
    apart u (n, a, inr h) = inr (n, a, h)

-- more letters at the end of each list
pub AfterAny-append : (P : Word → Type 0) (lists : List Letters) (more : Letters) (v : Word) →
    AfterAny P (each_with more lists) v → After (AfterAny P lists) more v
AfterAny-append P [] more v h = absurd h
AfterAny-append P (l ∷ lists) more v (inl h) =
    After-map more (After P l) (AfterAny P (l ∷ lists)) (λ u t. inl t) v (After-append l more P v h)
AfterAny-append P (l ∷ lists) more v (inr h) =
    After-map more (AfterAny P lists) (AfterAny P (l ∷ lists)) (λ u t. inr t) v (AfterAny-append P lists more v h)

pub append-AfterAny : (P : Word → Type 0) (lists : List Letters) (more : Letters) (v : Word) →
    After (AfterAny P lists) more v → AfterAny P (each_with more lists) v
append-AfterAny P [] more v h = (After-some more (AfterAny P []) v h).1
append-AfterAny P (l ∷ lists) more v h =
    elim (After-either more (After P l) (AfterAny P lists) v h) [
      | inl p ↦ inl (append-After l more P v p)
      | inr p ↦ inr (append-AfterAny P lists more v p)
    ]
