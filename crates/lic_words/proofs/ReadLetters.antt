-- One character more of a token is read.
use Rattle.std.proofs.Common.{◌≡◌, ℕ, Bool, true, false, ◌&&◌, List, [], ◌∷◌, ◌++◌, length, eq-eqb, ne_eqb, refl, sym, ap, ◌∙◌, arith}
use Rattle.std.specs.Char.{encode_utf8}
use Rattle.std.specs.Str.{chars, IsUtf8, encode_utf8_all}
use Rattle.std.proofs.lemmas.Str.{chars_past_char, chars-nil, encodes-chars}
use Rattle.lic_words.specs.Words.{blank}
use Rattle.lic_words.specs.Letters.{is_word}
use Rattle.lic_words.specs.Spelling.{gap_of, gapped_from, last_letter, apart_after}
use Rattle.lic_words.proofs.Sequences.{gapped_from-blank, gapped_from-letter, last_letter-blank, last_letter-letter, apart_after-some}

-- nothing is left of the text
pub none_left : (bs : List ℕ) → length bs ≡ 0 → chars bs ≡ []
none_left [] h = chars-nil
none_left (b ∷ bs) h = absurd (omega (arith, h))

module _ (last : ℕ) (apart : Bool) (bs rest : List ℕ) (c : ℕ) (text : IsUtf8 bs) (came : bs ≡ encode_utf8 c ++ rest) where
  split : chars bs ≡ c ∷ chars rest
  split = chars_past_char bs rest c text came

  module _ (gap : c ≡ blank) where
    pub letters-blank : gapped_from last apart (chars bs) ≡ gapped_from last true (chars rest)
    letters-blank = ap (gapped_from last apart) split ∙ gapped_from-blank last apart c (chars rest) (eq-eqb c blank gap)

    pub last-blank : last_letter last (chars bs) ≡ last_letter last (chars rest)
    last-blank = ap (last_letter last) split ∙ last_letter-blank last apart c (chars rest) (eq-eqb c blank gap)

    pub apart-blank : apart_after apart (chars bs) ≡ apart_after true (chars rest)
    apart-blank = ap (apart_after apart) split ∙ ap (λ b. apart_after b (chars rest)) (eq-eqb c blank gap)

  module _ (letter : c ≡ blank → ⊥) where
    pub letters-letter : gapped_from last apart (chars bs) ≡ (gap_of apart (is_word last && is_word c), c) ∷ gapped_from c false (chars rest)
    letters-letter = ap (gapped_from last apart) split ∙ gapped_from-letter last apart c (chars rest) (ne_eqb c blank letter)

    pub last-letter : last_letter last (chars bs) ≡ last_letter c (chars rest)
    last-letter = ap (last_letter last) split ∙ last_letter-letter last apart c (chars rest) (ne_eqb c blank letter)

    pub apart-letter : apart_after apart (chars bs) ≡ apart_after false (chars rest)
    apart-letter = ap (apart_after apart) split ∙ ap (λ b. apart_after b (chars rest)) (ne_eqb c blank letter)

-- something is left of the text
pub some_left : (bs : List ℕ) → IsUtf8 bs → (length bs ≡ 0 → ⊥) → (c : ℕ) × (cs : List ℕ) × (chars bs ≡ c ∷ cs)
some_left bs text some = by_chars (chars bs) refl
  where
    by_chars : (cs : List ℕ) → chars bs ≡ cs → (c : ℕ) × (cs : List ℕ) × (chars bs ≡ c ∷ cs)
    by_chars [] e = absurd (some (ap length (sym (encodes-chars bs text) ∙ ap encode_utf8_all e)))
    by_chars (c ∷ cs) e = (c, cs, e)

-- where no letter is left and the text is not at its end, blanks are left
pub apart_left : (last : ℕ) (apart : Bool) (bs : List ℕ) → IsUtf8 bs → (length bs ≡ 0 → ⊥) → gapped_from last apart (chars bs) ≡ [] →
    apart_after apart (chars bs) ≡ true
apart_left last apart bs text some none =
    let (c, cs, e) = some_left bs text some in
    ap (apart_after apart) e ∙ apart_after-some last apart c cs (ap (gapped_from last apart) (sym e) ∙ none)
