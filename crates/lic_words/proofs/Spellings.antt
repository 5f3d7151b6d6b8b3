-- The letters of a spelling, and the blanks at its ends.
use Rattle.std.proofs.Common.{◌≡◌, ℕ, zero, suc, ◌+◌, ◌↔◌, Bool, true, false, not, ◌==◌, ◌&&◌, List, [], ◌∷◌, ◌++◌, map, eq-eqb, ne_eqb, refl, sym, ap, ◌∙◌, subst, append_assoc}
use Rattle.std.specs.List.{concat, filter}
use Rattle.std.proofs.lemmas.List.{replicate_more}
use Rattle.std.proofs.lemmas.List.Elements.{filter-append}
use Rattle.lic_words.specs.Words.{Word, blank, blanks}
use Rattle.lic_kind.specs.Kinds.{kind_of}
use Rattle.lic_words.specs.Letters.{is_word}
use Rattle.lic_words.specs.Spelling.{Gap, gap_of, free, gapped, gapped_from, sequence_of, Spells, SpellsGapped}

abbrev Gapped : Type 0
Gapped = List (Gap × ℕ)

-- no letter of a list with gaps is a blank
abbrev HasNoBlank : Gapped → Type 0
HasNoBlank [] = Unit {0}
HasNoBlank (p ∷ rest) = (p.1 ≡ blank → ⊥) × HasNoBlank rest

-- the first gap of a list, if it has one, is free
abbrev BeginsFree : Gapped → Type 0
BeginsFree [] = Unit {0}
BeginsFree (p ∷ rest) = p.0 ≡ free

abbrev is_letter : ℕ → Bool
is_letter c = not (c == blank)

not_blank : (c : ℕ) → (c == blank) ≡ false → c ≡ blank → ⊥
not_blank c h e = let t = eq-eqb c blank e in cc

HasNoBlank-from : (last : ℕ) (apart : Bool) (sequence : List ℕ) → HasNoBlank (gapped_from last apart sequence)
HasNoBlank-from last apart [] = tt
HasNoBlank-from last apart (c ∷ sequence) = by_letter (λ l a. HasNoBlank-from l a sequence) (c == blank) refl
  where
    by_letter : ((l : ℕ) (a : Bool) → HasNoBlank (gapped_from l a sequence)) → (b : Bool) → (c == blank) ≡ b → HasNoBlank (gapped_from last apart (c ∷ sequence))
    by_letter rest true h = rw h (rest last true)
    by_letter rest false h = rw h (not_blank c h, rest c false)

-- a blank is no letter of a word
pub gap-after_blank : (c : ℕ) → gap_of true (is_word blank && is_word c) ≡ free
unfolding kind_of
gap-after_blank c = refl

BeginsFree-from : (sequence : List ℕ) → BeginsFree (gapped_from blank true sequence)
BeginsFree-from [] = tt
BeginsFree-from (c ∷ sequence) = by_letter (BeginsFree-from sequence) (c == blank) refl
  where
    by_letter : BeginsFree (gapped_from blank true sequence) → (b : Bool) → (c == blank) ≡ b → BeginsFree (gapped_from blank true (c ∷ sequence))
    by_letter rest true h = rw h rest
    by_letter rest false h = rw h (gap-after_blank c)

BeginsFree-gapped : (ts : List (List ℕ)) → BeginsFree (gapped ts)
BeginsFree-gapped [] = tt
BeginsFree-gapped (t ∷ ts) = BeginsFree-from (t ++ sequence_of ts)

-- ---- the letters

filter-blanks : (n : ℕ) (v : Word) → filter is_letter (blanks n ++ v) ≡ filter is_letter v
filter-blanks zero v = refl
filter-blanks (suc n) v = filter-blanks n v

filter-blanks_alone : (n : ℕ) → filter is_letter (blanks n) ≡ []
filter-blanks_alone zero = refl
filter-blanks_alone (suc n) = filter-blanks_alone n

filter-letter : (c : ℕ) (v : Word) → (c == blank) ≡ false → filter is_letter (c ∷ v) ≡ c ∷ filter is_letter v
filter-letter c v h = rw h refl

filter-spelling : (w : Word) (gaps : Gapped) → HasNoBlank gaps → SpellsGapped w gaps → filter is_letter w ≡ map (λ p. p.1) gaps
filter-spelling w [] h (n, e) = ap (filter is_letter) e ∙ filter-blanks_alone n
filter-spelling w (p ∷ rest) (other, h) (n, allows, v, e, s) =
    ap (filter is_letter) e ∙ filter-blanks n (p.1 ∷ v) ∙ filter-letter p.1 v (ne_eqb p.1 blank other)
    ∙ ap (λ x. p.1 ∷ x) (filter-spelling v rest h s)

filter-sequence : (last : ℕ) (apart : Bool) (sequence : List ℕ) → map (λ p. p.1) (gapped_from last apart sequence) ≡ filter is_letter sequence
filter-sequence last apart [] = refl
filter-sequence last apart (c ∷ sequence) = by_letter (λ l a. filter-sequence l a sequence) (c == blank) refl
  where
    by_letter : ((l : ℕ) (a : Bool) → map (λ p. p.1) (gapped_from l a sequence) ≡ filter is_letter sequence) → (b : Bool) → (c == blank) ≡ b →
        map (λ p. p.1) (gapped_from last apart (c ∷ sequence)) ≡ filter is_letter (c ∷ sequence)
    by_letter rest true h = rw h (rest last true)
    by_letter rest false h = rw h (ap (λ x. c ∷ x) (rest c false))

filter-sequence_of : (ts : List (List ℕ)) → filter is_letter (sequence_of ts) ≡ filter is_letter (concat ts)
filter-sequence_of [] = refl
filter-sequence_of (t ∷ ts) =
    filter-append is_letter t (sequence_of ts) ∙ ap (λ x. filter is_letter t ++ x) (filter-sequence_of ts)
    ∙ sym (filter-append is_letter t (concat ts))

pub Spells-letters : (w : Word) (ts : List (List ℕ)) → Spells w ts → filter is_letter w ≡ filter is_letter (concat ts)
Spells-letters w ts s =
    filter-spelling w (gapped ts) (HasNoBlank-from blank false (sequence_of ts)) s ∙ filter-sequence blank false (sequence_of ts) ∙ filter-sequence_of ts

-- ---- a blank more at an end

before : (w : Word) (gaps : Gapped) → BeginsFree gaps → SpellsGapped w gaps → SpellsGapped (blank ∷ w) gaps
before w [] f (n, e) = (suc n, ap (λ x. blank ∷ x) e)
before w ((gap, c) ∷ rest) f (n, allows, v, e, s) = rw f (suc n, tt, v, ap (λ x. blank ∷ x) e, s)

not_before : (w : Word) (gaps : Gapped) → HasNoBlank gaps → BeginsFree gaps → SpellsGapped (blank ∷ w) gaps → SpellsGapped w gaps
not_before w [] h f (zero, e) = cc
not_before w [] h f (suc n, e) = let tail : w ≡ blanks n = cc in (n, tail)
not_before w ((gap, c) ∷ rest) h f (zero, allows, v, e, s) = let same : c ≡ blank = cc in absurd (h.0 same)
not_before w ((gap, c) ∷ rest) h f (suc n, allows, v, e, s) =
    let tail : w ≡ blanks n ++ c ∷ v = cc in rw f (n, tt, v, tail, s)

pub Spells-before : (w : Word) (ts : List (List ℕ)) → Spells w ts ↔ Spells (blank ∷ w) ts
Spells-before w ts = (
  before w (gapped ts) (BeginsFree-gapped ts),
  not_before w (gapped ts) (HasNoBlank-from blank false (sequence_of ts)) (BeginsFree-gapped ts),
)

past : (w : Word) (gaps : Gapped) → SpellsGapped w gaps → SpellsGapped (w ++ blank ∷ []) gaps
past w [] (n, e) = (n + 1, ap (λ x. x ++ blank ∷ []) e ∙ replicate_more n blank)
past w (p ∷ rest) (n, allows, v, e, s) =
    (n, allows, v ++ blank ∷ [], ap (λ x. x ++ blank ∷ []) e ∙ append_assoc (blanks n) (p.1 ∷ v) (blank ∷ []), past v rest s)

blanks-front : (w : Word) (n : ℕ) → w ++ blank ∷ [] ≡ blanks n → (m : ℕ) × (w ≡ blanks m)
blanks-front [] n e = (0, refl)
blanks-front (c ∷ w) zero e = cc
blanks-front (c ∷ w) (suc n) e =
    let first : c ≡ blank = cc in
    let tail : w ++ blank ∷ [] ≡ blanks n = cc in
    let (m, f) = blanks-front w n tail in
    (suc m, ap (λ x. x ∷ w) first ∙ ap (λ x. blank ∷ x) f)

-- a letter that is no blank is not the blank at the end
letter-front : (w : Word) (n c : ℕ) (v : Word) → (c ≡ blank → ⊥) → w ++ blank ∷ [] ≡ blanks n ++ c ∷ v →
    (u : Word) × (v ≡ u ++ blank ∷ []) × (w ≡ blanks n ++ c ∷ u)
letter-front [] zero c v h e = let same : c ≡ blank = cc in absurd (h same)
letter-front [] (suc zero) c v h e = cc
letter-front [] (suc (suc n)) c v h e = cc
letter-front (d ∷ w) zero c v h e =
    let first : d ≡ c = cc in
    let tail : v ≡ w ++ blank ∷ [] = cc in
    (w, tail, ap (λ x. x ∷ w) first)
letter-front (d ∷ w) (suc n) c v h e =
    let first : d ≡ blank = cc in
    let tail : w ++ blank ∷ [] ≡ blanks n ++ c ∷ v = cc in
    let (u, f, g) = letter-front w n c v h tail in
    (u, f, ap (λ x. x ∷ w) first ∙ ap (λ x. blank ∷ x) g)

not_after : (w : Word) (gaps : Gapped) → HasNoBlank gaps → SpellsGapped (w ++ blank ∷ []) gaps → SpellsGapped w gaps
not_after w [] h (n, e) = blanks-front w n e
not_after w (p ∷ rest) (other, h) (n, allows, v, e, s) =
    let (u, f, g) = letter-front w n p.1 v other e in
    (n, allows, u, g, not_after u rest h (subst (λ x. SpellsGapped x rest) f s))

pub Spells-past : (w : Word) (ts : List (List ℕ)) → Spells w ts ↔ Spells (w ++ blank ∷ []) ts
Spells-past w ts = (
  past w (gapped ts),
  not_after w (gapped ts) (HasNoBlank-from blank false (sequence_of ts)),
)
