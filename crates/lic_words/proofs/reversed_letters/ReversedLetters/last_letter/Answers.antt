use Rattle.std.proofs.Common.{reverse}
use Rattle.std.specs.Str.{chars}
use Rattle.lic_words.proofs.Sequences.{last_letter-none}
use Rattle.lic_words.proofs.reversed_letters.ReversedLetters.last_letter.Goals as goal

pub returns : goal.returns
returns c = λ none. last_letter-none c.args.self.now.last c.args.self.now.is_apart (reverse (chars c.args.self.now.rest.now)) none
