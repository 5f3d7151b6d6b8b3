-- The letters with gaps of a list of tokens that gets more tokens.
use Rattle.std.proofs.Common.{◌≡◌, ℕ, Bool, true, false, ◌==◌, ◌&&◌, List, [], ◌∷◌, ◌++◌, refl, sym, ap, ◌∙◌, append_assoc, append-nil}
use Rattle.lic_words.specs.Words.{blank}
use Rattle.lic_words.specs.Letters.{is_word}
use Rattle.lic_words.specs.Spelling.{gap_of, gapped, gapped_from, sequence_of, last_letter, last_of}
use Rattle.lic_words.proofs.Sequences.{gapped_from-sequence, gapped_from-letter, last_letter-letter}

-- one letter more in front, where the rest is known for each state
gapped_from-cons : (last : ℕ) (apart : Bool) (c : ℕ) (t : List ℕ) (ts : List (List ℕ)) →
    ((before : ℕ) (gap : Bool) → gapped_from before gap (t ++ sequence_of ts) ≡ gapped_from before gap t ++ gapped_from (last_letter before t) false (sequence_of ts)) →
    (b : Bool) → (c == blank) ≡ b →
    gapped_from last apart (c ∷ t ++ sequence_of ts) ≡ gapped_from last apart (c ∷ t) ++ gapped_from (last_letter last (c ∷ t)) false (sequence_of ts)
gapped_from-cons last apart c t ts rest true h = rw h (rest last true)
gapped_from-cons last apart c t ts rest false h =
    gapped_from-letter last apart c (t ++ sequence_of ts) h
    ∙ ap (λ s. (gap_of apart (is_word last && is_word c), c) ∷ s) (rest c false)
    ∙ sym (ap (λ s. s ++ gapped_from (last_letter last (c ∷ t)) false (sequence_of ts)) (gapped_from-letter last apart c t h)
    ∙ ap (λ l. (gap_of apart (is_word last && is_word c), c) ∷ gapped_from c false t ++ gapped_from l false (sequence_of ts)) (last_letter-letter last apart c t h))

pub gapped_from-append : (last : ℕ) (apart : Bool) (t : List ℕ) (ts : List (List ℕ)) →
    gapped_from last apart (t ++ sequence_of ts) ≡ gapped_from last apart t ++ gapped_from (last_letter last t) false (sequence_of ts)
gapped_from-append last apart [] ts = gapped_from-sequence last apart ts
gapped_from-append last apart (c ∷ t) ts =
    gapped_from-cons last apart c t ts (λ before gap. gapped_from-append before gap t ts) (c == blank) refl

gapped_from-more : (last : ℕ) (ts more : List (List ℕ)) →
    gapped_from last false (sequence_of (ts ++ more)) ≡ gapped_from last false (sequence_of ts) ++ gapped_from (last_of last ts) false (sequence_of more)
gapped_from-more last [] more = refl
gapped_from-more last (t ∷ ts) more =
    gapped_from-append last true t (ts ++ more)
    ∙ ap (λ s. gapped_from last true t ++ s) (gapped_from-more (last_letter last t) ts more)
    ∙ sym (append_assoc (gapped_from last true t) (gapped_from (last_letter last t) false (sequence_of ts))
    (gapped_from (last_of (last_letter last t) ts) false (sequence_of more)))
    ∙ ap (λ s. s ++ gapped_from (last_of (last_letter last t) ts) false (sequence_of more)) (sym (gapped_from-append last true t ts))

-- more tokens
pub gapped-append : (ts more : List (List ℕ)) → gapped (ts ++ more) ≡ gapped ts ++ gapped_from (last_of blank ts) false (sequence_of more)
gapped-append ts more = gapped_from-more blank ts more

-- one token more
pub gapped-snoc : (ts : List (List ℕ)) (t : List ℕ) → gapped (ts ++ t ∷ []) ≡ gapped ts ++ gapped_from (last_of blank ts) true t
gapped-snoc ts t =
    gapped-append ts (t ∷ []) ∙ ap (λ s. gapped ts ++ gapped_from (last_of blank ts) true s) (append-nil t)
