-- One character more of a token is read from its end.
use Rattle.std.proofs.Common.{◌≡◌, ℕ, Bool, true, false, ◌&&◌, List, [], ◌∷◌, ◌++◌, reverse, eq-eqb, ne_eqb, sym, ap, ◌∙◌, append-nil}
use Rattle.std.specs.Char.{IsScalar, encode_utf8}
use Rattle.std.specs.Str.{chars, IsUtf8}
use Rattle.std.proofs.lemmas.List.{reverse-append}
use Rattle.std.proofs.lemmas.Str.{chars-append, chars_past_char, chars-nil, IsUtf8-encode}
use Rattle.lic_words.specs.Words.{blank}
use Rattle.lic_words.specs.Letters.{is_word}
use Rattle.lic_words.specs.Spelling.{gap_of, gapped_from, last_letter}
use Rattle.lic_words.proofs.Sequences.{gapped_from-blank, gapped_from-letter, last_letter-blank, last_letter-letter}

module _ (last : ℕ) (apart : Bool) (bs front : List ℕ) (c : ℕ) (scalar : IsScalar c) (text : IsUtf8 front) (came : bs ≡ front ++ encode_utf8 c) where
  one_char : chars (encode_utf8 c) ≡ c ∷ []
  one_char = chars_past_char (encode_utf8 c) [] c (IsUtf8-encode c scalar) (sym (append-nil (encode_utf8 c))) ∙ ap (λ x. c ∷ x) chars-nil

  split : reverse (chars bs) ≡ c ∷ reverse (chars front)
  split = ap (λ x. reverse (chars x)) came ∙ ap reverse (chars-append front (encode_utf8 c) text ∙ ap (λ x. chars front ++ x) one_char)
      ∙ reverse-append (chars front) (c ∷ [])

  module _ (gap : c ≡ blank) where
    pub reversed_tokens-letters-blank : gapped_from last apart (reverse (chars bs)) ≡ gapped_from last true (reverse (chars front))
    reversed_tokens-letters-blank = ap (gapped_from last apart) split ∙ gapped_from-blank last apart c (reverse (chars front)) (eq-eqb c blank gap)

    pub reversed_tokens-last-blank : last_letter last (reverse (chars bs)) ≡ last_letter last (reverse (chars front))
    reversed_tokens-last-blank = ap (last_letter last) split ∙ last_letter-blank last apart c (reverse (chars front)) (eq-eqb c blank gap)

  module _ (letter : c ≡ blank → ⊥) where
    pub reversed_tokens-letters-letter : gapped_from last apart (reverse (chars bs))
        ≡ (gap_of apart (is_word last && is_word c), c) ∷ gapped_from c false (reverse (chars front))
    reversed_tokens-letters-letter = ap (gapped_from last apart) split ∙ gapped_from-letter last apart c (reverse (chars front)) (ne_eqb c blank letter)

    pub reversed_tokens-last-letter : last_letter last (reverse (chars bs)) ≡ last_letter c (reverse (chars front))
    reversed_tokens-last-letter = ap (last_letter last) split ∙ last_letter-letter last apart c (reverse (chars front)) (ne_eqb c blank letter)
