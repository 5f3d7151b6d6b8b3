use Rattle.std.proofs.Common.{◌≡◌, length}
use Rattle.std.specs.Str.{IsUtf8}
use Rattle.lic_words.specs.Reading.{letters_left, last_in, is_apart_in}
use Rattle.lic_words.proofs.letters.LettersIterator.next.Given as goal

-- blanks alone were passed over
abbrev pub invariant-loop-letter : goal.invariant-loop-letter
invariant-loop-letter l = record {
  text : IsUtf8 l.self.rest.now;
  letters : letters_left l.self ≡ letters_left l.fn.self;
  last : last_in l.self ≡ last_in l.fn.self;
  apart : is_apart_in l.self ≡ is_apart_in l.fn.self;
}

abbrev pub decreases-loop-letter : goal.decreases-loop-letter
decreases-loop-letter l = length l.self.rest.now
