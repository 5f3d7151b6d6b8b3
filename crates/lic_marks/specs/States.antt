-- What a state of the automaton has read.
use Rattle.std.specs.Prelude.{◌≡◌, ℕ, Bool, true, false, List, [], ◌∷◌, length, replicate}
use Rattle.lic_words.specs.Words.{Word}
use Rattle.lic_words.specs.Spelling.{Gap}
use Rattle.lic_marks.specs.Cores.{Core, WordsOf}
use Rattle.lic_marks.specs.Marks.{no_marks}
use Rattle.lic_marks.specs.Rows.{flags_of, marks_of}
use Rattle.lic_marks.specs.Representing.{AfterAny, LeadsSoFar}
use Rattle.lic_marks.specs.Deciding.{over_blanks}
use Rattle.lic_marks.specs.declared.state.State.{State}

-- how many positions a state has
abbrev pub position_count : State → ℕ
position_count state = length state.at_once

-- whether a gap is open after the last letter
abbrev pub has_gap : State → Bool
has_gap state = state.is_apart

-- the words of the set are what may follow the state's marks
abbrev pub HasLeft : Core → State → (Word → Type 0) → Type 0
HasLeft r state A = LeadsSoFar r state.entry (marks_of r state.at_once) (marks_of r state.after_blanks) state.is_apart A

-- the state has read any of these lists of letters, each letter after its gap
abbrev pub HasTakenAny : Core → State → List (List (Gap × ℕ)) → Type 0
HasTakenAny r state lists = HasLeft r state (AfterAny (WordsOf r) lists)

-- the state has read these letters
abbrev pub HasTaken : Core → State → List (Gap × ℕ) → Type 0
HasTaken r state letters = HasTakenAny r state (letters ∷ [])

-- the state has taken nothing, and one may begin
pub record IsFresh (state : State) : Type 0 where
  pub entry : state.entry ≡ true
  pub clear : state.at_once ≡ replicate (position_count state) false

-- the row has the marks after blanks at the beginning of a word
abbrev pub HasFirstBlanks : Core → List Bool → Type 0
HasFirstBlanks r row = flags_of r (marks_of r row) ≡ flags_of r (over_blanks r true (no_marks r))
