-- The words that sequences of expressions denote.
use Rattle.std.proofs.Common.{◌≡◌, ◌≢◌, ℕ, zero, suc, ◌≤◌, All, List, [], ◌∷◌, ◌++◌, Option, Some, None, length, replicate, inl, inr, map, eq-eqb, eqb-true, refl, sym, ap, ◌∙◌, subst, append_assoc, append-nil}
use Rattle.std.specs.List.{concat}
use Rattle.std.proofs.lemmas.List.{length-replicate}
use Rattle.std.proofs.lemmas.List.Elements.{All-head, All-tail}
use Rattle.lic_words.specs.Words.{Word, blank, IsTidy, Cat, Power}
use Rattle.lic_words.specs.Expressions.{Expression, Language, alt, alt_all, cat_all, empty, letter, letters, repeat}

pub letters_sound : (text w : Word) → Language (letters text) w → w ≡ text
letters_sound [] w h = h
letters_sound (c ∷ text) w (u, v, (d, p, e), q, f) =
    f ∙ ap (λ x. x ++ v) e ∙ ap (λ x. x ∷ v) (eqb-true d c p) ∙ ap (λ x. c ∷ x) (letters_sound text v q)

pub letters_complete : (text : Word) → Language (letters text) text
letters_complete [] = refl
letters_complete (c ∷ text) = (c ∷ [], text, (c, eq-eqb c c refl, refl), letters_complete text, refl)

pub texts_sound : (texts : List Word) (w : Word) → Language (cat_all (map letters texts)) w → w ≡ concat texts
texts_sound [] w h = h
texts_sound (t ∷ texts) w (u, v, p, q, e) =
    e ∙ ap (λ x. x ++ v) (letters_sound t u p) ∙ ap (λ x. t ++ x) (texts_sound texts v q)

pub texts_complete : (texts : List Word) → Language (cat_all (map letters texts)) (concat texts)
texts_complete [] = refl
texts_complete (t ∷ texts) = (t, concat texts, letters_complete t, texts_complete texts, refl)

pub sequences_sound : (xs ys : List Expression) (w : Word) → Language (cat_all (xs ++ ys)) w →
    Cat (Language (cat_all xs)) (Language (cat_all ys)) w
sequences_sound [] ys w h = ([], w, refl, h, refl)
sequences_sound (x ∷ xs) ys w (u, v, p, q, e) =
    let (a, b, r, s, f) = sequences_sound xs ys v q in
    (u ++ a, b, (u, a, p, r, refl), s, e ∙ ap (λ y. u ++ y) f ∙ sym (append_assoc u a b))

pub sequences_complete : (xs ys : List Expression) (w : Word) → Cat (Language (cat_all xs)) (Language (cat_all ys)) w →
    Language (cat_all (xs ++ ys)) w
sequences_complete [] ys w (u, v, p, q, e) = subst (Language (cat_all ys)) (sym (e ∙ ap (λ x. x ++ v) p)) q
sequences_complete (x ∷ xs) ys w (u, v, (a, b, p, r, f), q, e) =
    (a, b ++ v, p, sequences_complete xs ys (b ++ v) (b, v, r, q, refl), e ∙ ap (λ y. y ++ v) f ∙ append_assoc a b v)

pub optional_sound : (a : Expression) (w : Word) → Language (alt empty (cat_all (alt empty a ∷ []))) w → Language (alt empty a) w
optional_sound a w (inl h) = inl h
optional_sound a w (inr (u, v, p, q, e)) =
    subst (Language (alt empty a)) (sym (e ∙ ap (λ x. u ++ x) q ∙ append-nil u)) p

pub optional_complete : (a : Expression) (w : Word) → Language (alt empty a) w → Language (alt empty (cat_all (alt empty a ∷ []))) w
optional_complete a w (inl h) = inl h
optional_complete a w (inr h) = inr (w, [], inr h, refl, sym (append-nil w))

-- ---- a letter that many times

power_sound : (c k : ℕ) (w : Word) → Power (Language (letter c)) k w → w ≡ replicate k c
power_sound c zero w h = h
power_sound c (suc k) w (u, v, (d, p, e), q, f) =
    f ∙ ap (λ x. x ++ v) e ∙ ap (λ x. x ∷ v) (eqb-true d c p) ∙ ap (λ x. c ∷ x) (power_sound c k v q)

power_complete : (c k : ℕ) → Power (Language (letter c)) k (replicate k c)
power_complete c zero = refl
power_complete c (suc k) = (c ∷ [], replicate k c, (c, eq-eqb c c refl, refl), power_complete c k, refl)

same_count : (c n k : ℕ) → replicate n c ≡ replicate k c → n ≡ k
same_count c n k e = sym (length-replicate n c) ∙ ap length e ∙ length-replicate k c

pub between_sound : (c min max n : ℕ) → Language (repeat min (Some max) (letter c)) (replicate n c) → (min ≤ n) × (n ≤ max)
between_sound c min max n (k, low, high, p) =
    let same : n ≡ k = same_count c n k (power_sound c k (replicate n c) p) in
    (subst (λ m. min ≤ m) (sym same) low, subst (λ m. m ≤ max) (sym same) high)

pub between_complete : (c min max n : ℕ) → (min ≤ n) × (n ≤ max) → Language (repeat min (Some max) (letter c)) (replicate n c)
between_complete c min max n (low, high) = (n, low, high, power_complete c n)

pub at_least_sound : (c min n : ℕ) → Language (repeat min None (letter c)) (replicate n c) → min ≤ n
at_least_sound c min n (k, low, high, p) = subst (λ m. min ≤ m) (sym (same_count c n k (power_sound c k (replicate n c) p))) low

pub at_least_complete : (c min n : ℕ) → min ≤ n → Language (repeat min None (letter c)) (replicate n c)
at_least_complete c min n low = (n, low, tt, power_complete c n)

pub repeated_only : (c min : ℕ) (max : Option ℕ) (w : Word) → Language (repeat min max (letter c)) w → (n : ℕ) × (w ≡ replicate n c)
repeated_only c min max w (k, low, high, p) = (k, power_sound c k w p)

-- ---- alternatives

pub alternatives_sound : (xs : List Expression) (w : Word) → Language (alt_all xs) w
    → (front back : List Expression) × (a : Expression) × (xs ≡ front ++ a ∷ back) × Language a w
alternatives_sound [] w h = absurd h
alternatives_sound (x ∷ xs) w (inl h) = ([], xs, x, refl, h)
alternatives_sound (x ∷ xs) w (inr h) =
    let (front, back, a, e, l) = alternatives_sound xs w h in (x ∷ front, back, a, ap (λ ys. x ∷ ys) e, l)

one_of : (front back : List Expression) (a : Expression) (w : Word) → Language a w → Language (alt_all (front ++ a ∷ back)) w
one_of [] back a w h = inl h
one_of (x ∷ front) back a w h = inr (one_of front back a w h)

pub alternatives_complete : (xs : List Expression) (w : Word)
    → (front back : List Expression) × (a : Expression) × (xs ≡ front ++ a ∷ back) × Language a w
    → Language (alt_all xs) w
alternatives_complete xs w (front, back, a, e, h) = subst (λ ys. Language (alt_all ys) w) (sym e) (one_of front back a w h)

-- ---- tidy words

no_blank_in : (u v : Word) → All (λ c. c ≢ blank) (u ++ blank ∷ v) → ⊥
no_blank_in [] v h = All-head (λ c. c ≢ blank) blank v h refl
no_blank_in (c ∷ u) v h = no_blank_in u v (All-tail (λ c. c ≢ blank) c (u ++ blank ∷ v) h)

pub without_blanks_tidy : (w : Word) → All (λ c. c ≢ blank) w → IsTidy w
without_blanks_tidy w h = record {
  not_first = λ v e. no_blank_in [] v (subst (All (λ c. c ≢ blank)) e h);
  not_last = λ u e. no_blank_in u [] (subst (All (λ c. c ≢ blank)) e h);
  not_two = λ u v e. absurd (no_blank_in u (blank ∷ v) (subst (All (λ c. c ≢ blank)) e h));
}
