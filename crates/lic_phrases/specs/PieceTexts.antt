-- What the letters of a template's piece of text are like.
use Rattle.std.specs.Prelude.{◌≡◌, ℕ, ◌<◌, List, ◌∷◌, ◌++◌, length, IsTrue}
use Rattle.lic_phrases.specs.Spelling.{begins_in_word, ends_in_word}

-- Each blank that is neither first nor last is between two letters of kind Word. (The byte 0x20 is in no other character.)
abbrev pub IsPieceText : List ℕ → Type 0
IsPieceText text = (front rest : List ℕ) → text ≡ front ++ 0x20 ∷ rest → 0 < length front → 0 < length rest
    → IsTrue (ends_in_word front) × IsTrue (begins_in_word rest)
