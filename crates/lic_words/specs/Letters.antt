-- Letters of words, and letters that are counted: a gap between two letters of words is written as a blank at least.
use Rattle.std.specs.Prelude.{ℕ, suc, Bool, ◌==◌, [], ◌∷◌, if◌then◌else◌}
use Rattle.lic_kind.specs.Kinds.{kind_of, is_word_kind}
use Rattle.lic_words.specs.Words.{Word, blank}

-- the letters of kind Word
abbrev pub is_word : ℕ → Bool
is_word c = is_word_kind (kind_of c)

-- how many letters of a word are not blanks
abbrev pub letters_in : Word → ℕ
letters_in [] = 0
letters_in (c ∷ w) = if c == blank then letters_in w else suc (letters_in w)
