-- What the text of a token is.
use Rattle.std.specs.Prelude.{◌≡◌, ℕ, ◌<◌, List, ◌∷◌, ◌++◌, length, All, IsTrue}
use Rattle.lic_phrases.specs.Rewriting.{Phrase}
use Rattle.lic_phrases.specs.Spelling.{begins_in_word, ends_in_word}

-- A token's text in UTF-8 has a letter, and each blank in it is between two letters of kind Word. (The byte 0x20 is in no
-- other character.)
pub record IsTokenText (text : List ℕ) : Type 0 where
  pub not_empty : 0 < length text
  pub blanks : (front rest : List ℕ) → text ≡ front ++ 0x20 ∷ rest
      → IsTrue (ends_in_word front) × IsTrue (begins_in_word rest)

-- the spellings of phrases are texts of tokens
abbrev pub HaveTokenTexts : List Phrase → Type 0
HaveTokenTexts words = All (λ p. IsTokenText p.spelling) words
