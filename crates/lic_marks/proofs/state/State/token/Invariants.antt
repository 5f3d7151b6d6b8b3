use Rattle.std.proofs.Common.{◌≡◌, ℕ, true, List, ◌++◌, length}
use Rattle.std.specs.Str.{chars}
use Rattle.lic_words.specs.Spelling.{Gap, gapped_from, last_letter}
use Rattle.lic_words.specs.Reading.{letters_left, last_in}
use Rattle.lic_marks.specs.Nodes.{core_of}
use Rattle.lic_marks.specs.Representing.{each_with}
use Rattle.lic_marks.specs.States.{HasTakenAny, position_count}
use Rattle.lic_marks.proofs.state.State.token.Given as goal

-- some letters more are taken, and the others are left
abbrev pub invariant-loop-letter : goal.invariant-loop-letter
invariant-loop-letter l = record {
  width : position_count l.self ≡ position_count l.fn.self;
  taken : (more : List (Gap × ℕ))
      × (gapped_from l.fn.last true (chars l.token) ≡ more ++ letters_left l.letters)
      × ((lists : List (List (Gap × ℕ))) → HasTakenAny (core_of l.tree) l.fn.self lists → HasTakenAny (core_of l.tree) l.self (each_with more lists));
  last : last_in l.letters ≡ last_letter l.fn.last (chars l.token);
}

abbrev pub decreases-loop-letter : goal.decreases-loop-letter
decreases-loop-letter l = length (letters_left l.letters)
