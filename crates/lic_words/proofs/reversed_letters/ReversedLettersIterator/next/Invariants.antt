use Rattle.std.proofs.Common.{◌≡◌, length}
use Rattle.std.specs.Str.{IsUtf8}
use Rattle.lic_words.specs.Reading.{reversed_letters_left, reversed_last_in}
use Rattle.lic_words.proofs.reversed_letters.ReversedLettersIterator.next.Given as goal

-- blanks alone were passed over
abbrev pub invariant-loop-letter : goal.invariant-loop-letter
invariant-loop-letter l = record {
  text : IsUtf8 l.self.rest.now;
  letters : reversed_letters_left l.self ≡ reversed_letters_left l.fn.self;
  last : reversed_last_in l.self ≡ reversed_last_in l.fn.self;
}

abbrev pub decreases-loop-letter : goal.decreases-loop-letter
decreases-loop-letter l = length l.self.rest.now
