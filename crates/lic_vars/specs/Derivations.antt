-- Derivations of a list of tokens by a template, and their records. A template is its parts as nodes in a row.
use Rattle.std.specs.Prelude.{◌≡◌, ℕ, ◌<◌, List, [], ◌∷◌, ◌++◌, Option, Some, None, ◌⊎◌, chars}
use Rattle.lic_words.specs.Words.{Word, IsTidy}
use Rattle.lic_words.specs.Letters.{letters_in}
use Rattle.lic_words.specs.Expressions.{Language}
use Rattle.lic_words.specs.Spelling.{Spells}
use Rattle.lic_markup.specs.Parts.{Nodes, no_node, one_more, letters, variable, optional}
use Rattle.lic_ere.specs.Meaning.{tree_words}

-- For each optional part that is not inside an absent one: absent, or present with the choice of its body.
-- For each variable that is not inside an absent part: a word.
abbrev pub Choice : Nodes → Type 0
Choice no_node = Unit {0}
Choice (one_more (letters text) rest) = Choice rest
Choice (one_more (variable name original pattern) rest) = Word × Choice rest
Choice (one_more (optional body) rest) = Option (Choice body) × Choice rest

-- the resulting word
abbrev pub word_of : (ns : Nodes) → Choice ns → Word
word_of no_node d = []
word_of (one_more (letters text) rest) d = chars text ++ word_of rest d
word_of (one_more (variable name original pattern) rest) (u, d) = u ++ word_of rest d
word_of (one_more (optional body) rest) (None, d) = word_of rest d
word_of (one_more (optional body) rest) (Some b, d) = word_of body b ++ word_of rest d

-- each word is a tidy word of its variable's pattern
abbrev pub IsAllowed : (ns : Nodes) → Choice ns → Type 0
IsAllowed no_node d = Unit {0}
IsAllowed (one_more (letters text) rest) d = IsAllowed rest d
IsAllowed (one_more (variable name original pattern) rest) (u, d) =
    Language (tree_words pattern) u × IsTidy u × IsAllowed rest d
IsAllowed (one_more (optional body) rest) (None, d) = IsAllowed rest d
IsAllowed (one_more (optional body) rest) (Some b, d) = IsAllowed body b × IsAllowed rest d

-- From left to right: 0 and then the body's record for a present optional part, 1 for an absent one, the number of
-- letters that are not blanks for a variable.
abbrev pub record_of : (ns : Nodes) → Choice ns → List ℕ
record_of no_node d = []
record_of (one_more (letters text) rest) d = record_of rest d
record_of (one_more (variable name original pattern) rest) (u, d) = letters_in u ∷ record_of rest d
record_of (one_more (optional body) rest) (None, d) = 1 ∷ record_of rest d
record_of (one_more (optional body) rest) (Some b, d) = 0 ∷ record_of body b ++ record_of rest d

-- the first record is the second or comes before it, number by number
abbrev pub NotAfter : List ℕ → List ℕ → Type 0
NotAfter [] ys = Unit {0}
NotAfter (x ∷ xs) [] = ⊥
NotAfter (x ∷ xs) (y ∷ ys) = (x < y) ⊎ ((x ≡ y) × NotAfter xs ys)

-- a choice whose words are allowed, and whose resulting word spells the tokens
pub record Derivation (ns : Nodes) (ts : List (List ℕ)) : Type 0 where
  pub choice : Choice ns
  pub allowed : IsAllowed ns choice
  pub spells : Spells (word_of ns choice) ts

-- no derivation of the tokens has a record before this one's
abbrev pub IsLeast : (ns : Nodes) (ts : List (List ℕ)) → Derivation ns ts → Type 0
IsLeast ns ts d = (e : Derivation ns ts) → NotAfter (record_of ns d.choice) (record_of ns e.choice)
