use Rattle.std.proofs.Common.{◌≡◌, ℕ, List, ◌++◌, length}
use Rattle.lic_words.specs.Spelling.{Gap}
use Rattle.lic_words.specs.Reading.{reversed_letters_left, reversed_last_in}
use Rattle.lic_marks.specs.Nodes.{core_of}
use Rattle.lic_marks.specs.Representing.{each_with}
use Rattle.lic_marks.specs.States.{HasTakenAny, position_count}
use Rattle.lic_marks.proofs.state.State.finish_token.Given as goal

-- some letters more are taken, and the others are left
abbrev pub invariant-loop-letter : goal.invariant-loop-letter
invariant-loop-letter l = record {
  width : position_count l.self ≡ position_count l.fn.self;
  taken : (more : List (Gap × ℕ))
      × (reversed_letters_left l.fn.letters ≡ more ++ reversed_letters_left l.letters)
      × ((lists : List (List (Gap × ℕ))) → HasTakenAny (core_of l.tree) l.fn.self lists → HasTakenAny (core_of l.tree) l.self (each_with more lists));
  last : reversed_last_in l.letters ≡ reversed_last_in l.fn.letters;
}

abbrev pub decreases-loop-letter : goal.decreases-loop-letter
decreases-loop-letter l = length (reversed_letters_left l.letters)
