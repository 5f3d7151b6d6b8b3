-- How many letters are no blanks.
use Rattle.std.proofs.Common.{◌≡◌, ℕ, suc, ◌+◌, Bool, true, false, not, ◌==◌, [], ◌∷◌, ◌++◌, reverse, length, if◌then◌else◌, cond, count_by, refl, ap, ◌∙◌, arith}
use Rattle.std.proofs.lemmas.List.{reverse-append}
use Rattle.std.proofs.lemmas.List.Recursion.{is_count_by}
use Rattle.lic_words.specs.Words.{Word, blank}
use Rattle.lic_words.specs.Letters.{letters_in}
use Rattle.lic_words.specs.Spelling.{gapped_from}

one_more : (b : Bool) (n : ℕ) → (if b then n else suc n) ≡ cond (not b) (1 + n) n
one_more true n = refl
one_more false n = omega arith

-- they are counted over the list
pub letters_in-count : (w : Word) → letters_in w ≡ count_by (λ c. not (c == blank)) w
letters_in-count = is_count_by letters_in (λ c. not (c == blank)) refl (λ c w. one_more (c == blank) (letters_in w))

-- each letter is given with its gap
pub length-gapped_from : (last : ℕ) (apart : Bool) (w : Word) → length (gapped_from last apart w) ≡ letters_in w
length-gapped_from last apart [] = refl
length-gapped_from last apart (c ∷ w) = by_letter (λ l a. length-gapped_from l a w) (c == blank) refl
  where
    by_letter : ((l : ℕ) (a : Bool) → length (gapped_from l a w) ≡ letters_in w) → (b : Bool) → (c == blank) ≡ b →
        length (gapped_from last apart (c ∷ w)) ≡ letters_in (c ∷ w)
    by_letter rest true h = rw h (rest last true)
    by_letter rest false h = rw h (ap suc (rest c false))

pub letters_in-append : (u w : Word) → letters_in (u ++ w) ≡ letters_in u + letters_in w
letters_in-append [] w = omega arith
letters_in-append (c ∷ u) w = by_letter (letters_in-append u w) (c == blank) refl
  where
    by_letter : letters_in (u ++ w) ≡ letters_in u + letters_in w → (b : Bool) → (c == blank) ≡ b →
        letters_in (c ∷ u ++ w) ≡ letters_in (c ∷ u) + letters_in w
    by_letter e true h = rw h e
    by_letter e false h = rw h (omega (arith, e))

-- as many from the end
pub letters_in-reverse : (w : Word) → letters_in (reverse w) ≡ letters_in w
letters_in-reverse [] = refl
letters_in-reverse (c ∷ w) =
    ap letters_in (reverse-append (c ∷ []) w) ∙ letters_in-append (reverse w) (c ∷ []) ∙ by_letter (letters_in-reverse w) (c == blank) refl
  where
    by_letter : letters_in (reverse w) ≡ letters_in w → (b : Bool) → (c == blank) ≡ b → letters_in (reverse w) + letters_in (c ∷ []) ≡ letters_in (c ∷ w)
    by_letter e true h = rw h (omega (arith, e))
    by_letter e false h = rw h (omega (arith, e))
