-- The words that a sequence of moves makes, and the least record of one of them.
use Rattle.std.specs.Prelude.{◌≡◌, ℕ, List, [], ◌∷◌, ◌++◌, drop}
use Rattle.lic_words.specs.Words.{Word}
use Rattle.lic_words.specs.Expressions.{Expression, tidy, Language}
use Rattle.lic_words.specs.Letters.{letters_in}
use Rattle.lic_vars.specs.Derivations.{NotAfter}
use Rattle.lic_vars.specs.Moves.{Move, text, variable, optional}

-- the moves make the word, with this record
pub data Makes : List Move → List ℕ → Word → Type 0 where
  ends : Makes [] [] []
  writes : {u : Word} {ms : List Move} {r : List ℕ} {whole : Word} (w : Word) → whole ≡ u ++ w → Makes ms r w → Makes (text u ∷ ms) r whole
  picks : {name : List ℕ} {re : Expression} {ms : List Move} {r : List ℕ} {whole : Word} (u w : Word) → Language (tidy re) u → whole ≡ u ++ w
      → Makes ms r w → Makes (variable name re ∷ ms) (letters_in u ∷ r) whole
  enters : {n : ℕ} {ms : List Move} {r : List ℕ} {w : Word} → Makes ms r w → Makes (optional n ∷ ms) (0 ∷ r) w
  skips : {n : ℕ} {ms : List Move} {r : List ℕ} {w : Word} → Makes (drop n ms) r w → Makes (optional n ∷ ms) (1 ∷ r) w

-- the moves make one of these words
pub record CanMake (ms : List Move) (P : Word → Type 0) : Type 0 where
  pub choices : List ℕ
  pub word : Word
  pub makes : Makes ms choices word
  pub is : P word

-- with this record the moves make one of these words, and with no smaller one
pub record LeastOf (ms : List Move) (P : Word → Type 0) (r : List ℕ) : Type 0 where
  pub word : Word
  pub makes : Makes ms r word
  pub is : P word
  pub least : (q : List ℕ) (w : Word) → Makes ms q w → P w → NotAfter r q
