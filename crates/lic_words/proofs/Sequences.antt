-- Sequences of letters, letter by letter and token by token.
use Rattle.std.proofs.Common.{◌≡◌, ℕ, Bool, true, false, ◌==◌, ◌&&◌, List, [], ◌∷◌, ◌++◌, refl, sym, ap, ◌∙◌}
use Rattle.lic_words.specs.Words.{blank}
use Rattle.lic_words.specs.Letters.{is_word}
use Rattle.lic_words.specs.Spelling.{gap_of, gapped_from, last_letter, last_of, sequence_of, apart_after}

module _ (last : ℕ) (apart : Bool) (c : ℕ) (rest : List ℕ) where
  pub gapped_from-blank : (c == blank) ≡ true → gapped_from last apart (c ∷ rest) ≡ gapped_from last true rest
  gapped_from-blank h = rw h refl

  pub gapped_from-letter : (c == blank) ≡ false →
      gapped_from last apart (c ∷ rest) ≡ (gap_of apart (is_word last && is_word c), c) ∷ gapped_from c false rest
  gapped_from-letter h = rw h refl

  pub last_letter-blank : (c == blank) ≡ true → last_letter last (c ∷ rest) ≡ last_letter last rest
  last_letter-blank h = rw h refl

  pub last_letter-letter : (c == blank) ≡ false → last_letter last (c ∷ rest) ≡ last_letter c rest
  last_letter-letter h = rw h refl

-- each token of a sequence begins with a gap
pub gapped_from-sequence : (last : ℕ) (apart : Bool) (ts : List (List ℕ)) → gapped_from last apart (sequence_of ts) ≡ gapped_from last false (sequence_of ts)
gapped_from-sequence last apart [] = refl
gapped_from-sequence last apart (t ∷ ts) = refl

pub last_of-snoc : (last : ℕ) (ts : List (List ℕ)) (t : List ℕ) → last_of last (ts ++ t ∷ []) ≡ last_letter (last_of last ts) t
last_of-snoc last [] t = refl
last_of-snoc last (u ∷ ts) t = last_of-snoc (last_letter last u) ts t

-- where no letter is left, the last letter is the one before
pub last_letter-none : (last : ℕ) (apart : Bool) (cs : List ℕ) → gapped_from last apart cs ≡ [] → last ≡ last_letter last cs
last_letter-none last apart [] h = refl
last_letter-none last apart (c ∷ cs) h = by_letter (λ e. last_letter-none last true cs e) (c == blank) refl
  where
    by_letter : (gapped_from last true cs ≡ [] → last ≡ last_letter last cs) → (b : Bool) → (c == blank) ≡ b → last ≡ last_letter last (c ∷ cs)
    by_letter rest true e = rest (sym (gapped_from-blank last apart c cs e) ∙ h) ∙ sym (last_letter-blank last apart c cs e)
    by_letter rest false e = absurd (let some = sym (gapped_from-letter last apart c cs e) ∙ h in cc)

-- where no letter is left, a gap comes after the sequence if one came before it or the sequence is not empty
pub apart_after-gap : (last : ℕ) (cs : List ℕ) → gapped_from last true cs ≡ [] → apart_after true cs ≡ true
apart_after-gap last [] h = refl
apart_after-gap last (c ∷ cs) h = by_letter (λ e. apart_after-gap last cs e) (c == blank) refl
  where
    by_letter : (gapped_from last true cs ≡ [] → apart_after true cs ≡ true) → (b : Bool) → (c == blank) ≡ b → apart_after true (c ∷ cs) ≡ true
    by_letter rest true e = ap (λ b. apart_after b cs) e ∙ rest (sym (gapped_from-blank last true c cs e) ∙ h)
    by_letter rest false e = absurd (let some = sym (gapped_from-letter last true c cs e) ∙ h in cc)

pub apart_after-some : (last : ℕ) (apart : Bool) (c : ℕ) (cs : List ℕ) → gapped_from last apart (c ∷ cs) ≡ [] → apart_after apart (c ∷ cs) ≡ true
apart_after-some last apart c cs h = by_letter (c == blank) refl
  where
    by_letter : (b : Bool) → (c == blank) ≡ b → apart_after apart (c ∷ cs) ≡ true
    by_letter true e = ap (λ b. apart_after b cs) e ∙ apart_after-gap last cs (sym (gapped_from-blank last apart c cs e) ∙ h)
    by_letter false e = absurd (let some = sym (gapped_from-letter last apart c cs e) ∙ h in cc)
