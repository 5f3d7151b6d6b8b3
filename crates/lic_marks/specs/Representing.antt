-- What may follow letters with gaps, for a pair of marks: those at once, and those after blanks.
use Rattle.std.specs.Prelude.{◌≡◌, ℕ, suc, Bool, true, false, List, [], ◌∷◌, ◌++◌, ◌⊎◌, map}
use Rattle.lic_words.specs.Words.{Word, blank, blanks}
use Rattle.lic_words.specs.Spelling.{Gap, no_gap, free, needed, Allows}
use Rattle.lic_marks.specs.Cores.{Core, WordsOf}
use Rattle.lic_marks.specs.Marks.{Marks, join, shift}
use Rattle.lic_marks.specs.Continuations.{Completes, Continues}

-- What may follow in a word of the set, once the letters with their gaps are written. At first that is the set itself.
abbrev pub After : (Word → Type 0) → List (Gap × ℕ) → Word → Type 0
After P [] v = P v
After P (p ∷ rest) v = After (λ u. (n : ℕ) × Allows p.0 n × P (blanks n ++ p.1 ∷ u)) rest v

-- What may follow in a word of the set, once a letter and the gap before it are written.
abbrev pub Then : Gap → ℕ → (Word → Type 0) → Word → Type 0
Then gap c A v = (n : ℕ) × Allows gap n × A (blanks n ++ c ∷ v)

-- What may follow in a word of the set, once one of these lists of letters is written.
abbrev pub AfterAny : (Word → Type 0) → List (List (Gap × ℕ)) → Word → Type 0
AfterAny P [] v = ⊥
AfterAny P (letters ∷ lists) v = After P letters v ⊎ AfterAny P lists v

-- each list with these letters at its end
abbrev pub each_with : List (Gap × ℕ) → List (List (Gap × ℕ)) → List (List (Gap × ℕ))
each_with more lists = map (λ letters. letters ++ more) lists

-- What may follow the marks at once are the words of the set.
pub record Leads (r : Core) (entry : Bool) (marks : Marks r) (A : Word → Type 0) : Type 0 where
  pub sound : (v : Word) → Continues r false entry marks v → A v
  pub complete : (v : Word) → A v → Continues r false entry marks v

-- What may follow the first marks at once are the words of the set, and what may follow the second are those after some blanks.
pub record LeadsOverBlanks (r : Core) (entry : Bool) (at_once after_blanks : Marks r) (A : Word → Type 0) : Type 0 where
  pub now : Leads r entry at_once A
  pub blanks_sound : (v : Word) → Completes r true after_blanks v → (n : ℕ) × A (blanks (suc n) ++ v)
  pub blanks_complete : (v : Word) (n : ℕ) → A (blanks (suc n) ++ v) → Completes r true after_blanks v

-- Within a token: what may follow the first marks at once are the words of the set. Where the next letter is set apart,
-- what may follow the second are those after some blanks.
pub record LeadsSoFar (r : Core) (entry : Bool) (at_once after_blanks : Marks r) (is_apart : Bool)
    (A : Word → Type 0) : Type 0 where
  pub now : Leads r entry at_once A
  pub apart : is_apart ≡ true → LeadsOverBlanks r entry at_once after_blanks A

-- The marks say what may follow the letters at once.
abbrev pub RepresentsAtOnce : (r : Core) → Bool → Marks r → List (Gap × ℕ) → Type 0
RepresentsAtOnce r entry marks letters = Leads r entry marks (After (WordsOf r) letters)

-- The first marks say what may follow the letters at once, the second what may follow after some blanks.
abbrev pub Represents : (r : Core) → Bool → Marks r → Marks r → List (Gap × ℕ) → Type 0
Represents r entry at_once after_blanks letters =
    LeadsOverBlanks r entry at_once after_blanks (After (WordsOf r) letters)

-- The second marks have what may follow after one blank, and nothing but what may follow after some blanks.
pub record Gathers (r : Core) (entry : Bool) (at_once after_blanks : Marks r) : Type 0 where
  pub sound : (v : Word) → Completes r true after_blanks v
      → (n : ℕ) × Continues r false entry at_once (blanks (suc n) ++ v)
  pub starts : (v : Word) → Continues r false entry at_once (blank ∷ v) → Completes r true after_blanks v

-- one more blank leads to nothing new
pub record IsClosed (r : Core) (after_blanks : Marks r) : Type 0 where
  pub steps : (v : Word) → Completes r true (shift r true false after_blanks blank) v → Completes r true after_blanks v

-- the marks after a letter that is no blank, with the gap before it
abbrev pub shift_over : (r : Core) → Bool → Marks r → Marks r → Gap → ℕ → Marks r
shift_over r entry at_once after_blanks no_gap c = shift r false entry at_once c
shift_over r entry at_once after_blanks free c =
    join r (shift r false entry at_once c) (shift r true false after_blanks c)
shift_over r entry at_once after_blanks needed c = shift r true false after_blanks c
