-- A token has a letter.
use Rattle.std.proofs.Common.{◌≡◌, ◌≢◌, ℕ, suc, ◌<◌, true, false, List, [], ◌∷◌, ◌++◌, length, reverse, ne_eqb, lit<, refl, sym, ap, ◌∙◌, arith}
use Rattle.std.specs.Str.{chars, IsUtf8}
use Rattle.std.proofs.lemmas.Bool.{false≢true}
use Rattle.std.proofs.Math.Utf8.{encodes}
use Rattle.std.proofs.lemmas.Str.{encodes-chars, encode_ascii, chars-nil}
use Rattle.lic_words.specs.Words.{blank}
use Rattle.lic_words.specs.Letters.{letters_in}
use Rattle.lic_phrases.specs.TokenTexts.{IsTokenText}
use Rattle.lic_phrases.specs.Spelling.{ends_in_word, first_is_word}

module _ (text : List ℕ) (utf8 : IsUtf8 text) (token : IsTokenText text) where
  -- the first letter is no blank
  no_blank_first : (c : ℕ) (rest : List ℕ) → chars text ≡ c ∷ rest → c ≢ blank
  no_blank_first c rest is same =
      let begins : text ≡ [] ++ blank ∷ encodes rest =
      sym (encodes-chars text utf8) ∙ ap encodes (is ∙ ap (λ d. d ∷ rest) same) ∙ ap (λ x. x ++ encodes rest) (encode_ascii blank (lit< tt)) in
      let inside : ends_in_word [] ≡ true = (token.blanks [] (encodes rest) begins).0 in
      let none : ends_in_word [] ≡ false = ap (λ cs. first_is_word (reverse cs)) chars-nil in
      false≢true (sym none ∙ inside)

  pub has_letters : 0 < letters_in (chars text)
  has_letters = by_chars (chars text) refl
    where
      by_chars : (cs : List ℕ) → chars text ≡ cs → 0 < letters_in (chars text)
      by_chars [] is = absurd (omega (arith, token.not_empty, ap length (sym (encodes-chars text utf8) ∙ ap encodes is)))
      by_chars (c ∷ rest) is =
          let value : letters_in (chars text) ≡ suc (letters_in rest) = ap letters_in is ∙ rw (ne_eqb c blank (no_blank_first c rest is)) refl in
          omega (arith, value)
