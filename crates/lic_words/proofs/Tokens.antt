-- The words that spell one token, and two that meet.
use Rattle.std.proofs.Common.{◌≡◌, ◌≢◌, ℕ, ◌+◌, ◌≤◌, ◌↔◌, Bool, true, false, ◌==◌, ◌&&◌, List, [], ◌∷◌, ◌++◌, All, ne_eqb, refl, sym, ap, ◌∙◌, subst, append_assoc}
use Rattle.std.proofs.lemmas.List.{replicate-append-replicate}
use Rattle.std.proofs.lemmas.List.Elements.{All-head, All-tail, All-cons, All-push}
use Rattle.lic_words.specs.Words.{Word, blank, blanks}
use Rattle.lic_kind.specs.Kinds.{kind_of}
use Rattle.lic_words.specs.Letters.{is_word}
use Rattle.lic_words.specs.Spelling.{Allows, gap_of, gapped_from, last_letter, sequence_of, Spells, SpellsGapped}
use Rattle.lic_words.proofs.Sequences.{gapped_from-letter, last_letter-letter}
use Rattle.lic_words.proofs.Spellings.{gap-after_blank}

abbrev IsNoBlank : ℕ → Type 0
IsNoBlank c = c ≢ blank

abbrev HasNone : Word → Type 0
HasNone = All IsNoBlank

word-no_blank : (c : ℕ) → is_word c ≡ true → IsNoBlank c
unfolding kind_of
word-no_blank c h e = let false_true : is_word blank ≡ true = subst (λ x. is_word x ≡ true) e h in cc

-- ---- letters side by side, and what comes after them

side_by_side : (last : ℕ) (t rest w : Word) → HasNone t → SpellsGapped w (gapped_from last false (t ++ rest)) →
    (v : Word) × (w ≡ t ++ v) × SpellsGapped v (gapped_from (last_letter last t) false rest)
side_by_side last [] rest w h s = (w, refl, s)
side_by_side last (c ∷ t) rest w h s =
    let other : (c == blank) ≡ false = ne_eqb c blank (All-head IsNoBlank c t h) in
    let (n, none, y, e, r) = rw (gapped_from-letter last false c (t ++ rest) other) at s in
    let (v, f, z) = side_by_side c t rest y (All-tail IsNoBlank c t h) r in
    (v, e ∙ ap (λ k. blanks k ++ c ∷ y) none ∙ ap (λ x. c ∷ x) f, rw (last_letter-letter last false c t other) z)

written_side_by_side : (last : ℕ) (t rest v : Word) → HasNone t → SpellsGapped v (gapped_from (last_letter last t) false rest) →
    SpellsGapped (t ++ v) (gapped_from last false (t ++ rest))
written_side_by_side last [] rest v h s = s
written_side_by_side last (c ∷ t) rest v h s =
    let other : (c == blank) ≡ false = ne_eqb c blank (All-head IsNoBlank c t h) in
    let past = written_side_by_side c t rest v (All-tail IsNoBlank c t h) (rw (last_letter-letter last false c t other) at s) in
    rw (gapped_from-letter last false c (t ++ rest) other) (0, refl, t ++ v, refl, past)

-- ---- the same after a gap

module _ (last c : ℕ) (t rest : Word) (h : HasNone (c ∷ t)) where
  other : (c == blank) ≡ false
  other = ne_eqb c blank (All-head IsNoBlank c t h)

  after_gap : (w : Word) → SpellsGapped w (gapped_from last true (c ∷ t ++ rest)) →
      (n : ℕ) × Allows (gap_of true (is_word last && is_word c)) n × (v : Word) × (w ≡ blanks n ++ ((c ∷ t) ++ v))
      × SpellsGapped v (gapped_from (last_letter c t) false rest)
  after_gap w s =
      let (n, allows, y, e, r) = rw (gapped_from-letter last true c (t ++ rest) other) at s in
      let (v, f, z) = side_by_side c t rest y (All-tail IsNoBlank c t h) r in
      (n, allows, v, e ∙ ap (λ x. blanks n ++ c ∷ x) f, z)

  written_after_gap : (n : ℕ) (v : Word) → Allows (gap_of true (is_word last && is_word c)) n →
      SpellsGapped v (gapped_from (last_letter c t) false rest) → SpellsGapped (blanks n ++ ((c ∷ t) ++ v)) (gapped_from last true (c ∷ t ++ rest))
  written_after_gap n v allows s =
      rw (gapped_from-letter last true c (t ++ rest) other) (n, allows, t ++ v, refl, written_side_by_side c t rest v (All-tail IsNoBlank c t h) s)

-- any number of blanks may come before the first letter
free_before : (c n : ℕ) → Allows (gap_of true (is_word blank && is_word c)) n
free_before c n = rw (gap-after_blank c) tt

-- ---- one token

whole : (t w : Word) → HasNone t → Spells w (t ∷ []) → (before past : ℕ) × (w ≡ blanks before ++ t ++ blanks past)
whole [] w h (n, e) = (0, n, e)
whole (c ∷ t) w h s =
    let (n, allows, v, e, (m, f)) = after_gap blank c t [] h w s in
    (n, m, e ∙ ap (λ x. blanks n ++ ((c ∷ t) ++ x)) f ∙ sym (append_assoc (blanks n) (c ∷ t) (blanks m)))

written_whole : (t w : Word) → HasNone t → (before past : ℕ) × (w ≡ blanks before ++ t ++ blanks past) → Spells w (t ∷ [])
written_whole [] w h (n, m, e) =
    (n + m, e ∙ append_assoc (blanks n) [] (blanks m) ∙ replicate-append-replicate n m blank)
written_whole (c ∷ t) w h (n, m, e) =
    subst (λ x. Spells x ((c ∷ t) ∷ [])) (sym (e ∙ append_assoc (blanks n) (c ∷ t) (blanks m)))
    (written_after_gap blank c t [] h n (blanks m) (free_before c n) (m, refl))

pub Spells-whole : (t w : Word) → HasNone t → Spells w (t ∷ []) ↔ ((before past : ℕ) × (w ≡ blanks before ++ t ++ blanks past))
Spells-whole t w h = (whole t w h, written_whole t w h)

-- ---- two tokens that meet in letters of words

abbrev Apart : Word → Word → Word → Type 0
Apart t u w = (before between past : ℕ) × (1 ≤ between) × (w ≡ blanks before ++ t ++ blanks between ++ u ++ blanks past)

-- the same stretches in a row, from after
in_a_row : (a b c d e : Word) → a ++ b ++ c ++ d ++ e ≡ a ++ (b ++ (c ++ (d ++ e)))
in_a_row a b c d e = append_assoc (a ++ b ++ c) d e ∙ append_assoc (a ++ b) c (d ++ e) ∙ append_assoc a b (c ++ (d ++ e))

module _ (c : ℕ) (t : Word) (b : ℕ) (u : Word) (h : HasNone (c ∷ t)) (k : HasNone (b ∷ u))
    (words : is_word (last_letter c t) && is_word b ≡ true) where
  apart : (w : Word) → Spells w ((c ∷ t) ∷ (b ∷ u) ∷ []) → Apart (c ∷ t) (b ∷ u) w
  apart w s =
      let (before, allows, v, e, r) = after_gap blank c t (sequence_of ((b ∷ u) ∷ [])) h w s in
      let (between, needed, x, f, (past, g)) = after_gap (last_letter c t) b u [] k v r in
      let some : 1 ≤ between = rw words at needed in (
        before,
        between,
        past,
        some,
        e ∙ ap (λ y. blanks before ++ ((c ∷ t) ++ y)) f ∙ ap (λ y. blanks before ++ ((c ∷ t) ++ (blanks between ++ ((b ∷ u) ++ y)))) g
            ∙ sym (in_a_row (blanks before) (c ∷ t) (blanks between) (b ∷ u) (blanks past)),
      )

  written_apart : (w : Word) → Apart (c ∷ t) (b ∷ u) w → Spells w ((c ∷ t) ∷ (b ∷ u) ∷ [])
  written_apart w (before, between, past, some, e) =
      let needed : Allows (gap_of true (is_word (last_letter c t) && is_word b)) between = rw words some in
      let second = written_after_gap (last_letter c t) b u [] k between (blanks past) needed (past, refl) in
      let sequence = e ∙ in_a_row (blanks before) (c ∷ t) (blanks between) (b ∷ u) (blanks past) in
      subst (λ x. Spells x ((c ∷ t) ∷ (b ∷ u) ∷ [])) (sym sequence)
      (written_after_gap blank c t (sequence_of ((b ∷ u) ∷ [])) h before (blanks between ++ ((b ∷ u) ++ blanks past)) (free_before c before) second)

last_letter-push : (last : ℕ) (t : Word) (a : ℕ) → IsNoBlank a → last_letter last (t ++ a ∷ []) ≡ a
last_letter-push last [] a h = last_letter-letter last false a [] (ne_eqb a blank h)
last_letter-push last (c ∷ t) a h = by_letter (λ l. last_letter-push l t a h) (c == blank) refl
  where
    by_letter : ((l : ℕ) → last_letter l (t ++ a ∷ []) ≡ a) → (b : Bool) → (c == blank) ≡ b → last_letter last (c ∷ t ++ a ∷ []) ≡ a
    by_letter rest true e = rw e (rest last)
    by_letter rest false e = rw e (rest c)

pub Spells-apart : (t u : Word) (a b : ℕ) (w : Word) → HasNone t → HasNone u → is_word a ≡ true → is_word b ≡ true →
    Spells w ((t ++ a ∷ []) ∷ (b ∷ u) ∷ []) ↔ Apart (t ++ a ∷ []) (b ∷ u) w
Spells-apart [] u a b w h k i j =
    let words : is_word a && is_word b ≡ true = rw (i, j) refl in
    let first : HasNone (a ∷ []) = All-push IsNoBlank [] a h (word-no_blank a i) in
    let second : HasNone (b ∷ u) = All-cons IsNoBlank b u (word-no_blank b j) k in
    (apart a [] b u first second words w, written_apart a [] b u first second words w)
Spells-apart (c ∷ t) u a b w h k i j =
    let words : is_word (last_letter c (t ++ a ∷ [])) && is_word b ≡ true = rw (last_letter-push c t a (word-no_blank a i), i, j) refl in
    let first : HasNone (c ∷ t ++ a ∷ []) = All-push IsNoBlank (c ∷ t) a h (word-no_blank a i) in
    let second : HasNone (b ∷ u) = All-cons IsNoBlank b u (word-no_blank b j) k in
    (apart c (t ++ a ∷ []) b u first second words w, written_apart c (t ++ a ∷ []) b u first second words w)

-- ---- a blank within a token

pub Spells-blank : (t u w : Word) (ts : List Word) → Spells w ((t ++ blank ∷ u) ∷ ts) ↔ Spells w (t ∷ u ∷ ts)
Spells-blank t u w ts =
    let same : sequence_of ((t ++ blank ∷ u) ∷ ts) ≡ sequence_of (t ∷ u ∷ ts) = ap (λ x. blank ∷ x) (append_assoc t (blank ∷ u) (sequence_of ts)) in
    (λ s. subst (λ x. SpellsGapped w (gapped_from blank false x)) same s, λ s. subst (λ x. SpellsGapped w (gapped_from blank false x)) (sym same) s)
