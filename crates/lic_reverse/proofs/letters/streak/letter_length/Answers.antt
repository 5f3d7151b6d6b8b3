use Rattle.std.proofs.Common.{arith}
use Rattle.lic_reverse.proofs.LeadBytes.{encode-long}
use Rattle.lic_reverse.proofs.letters.streak.letter_length.Goals as goal

pub returns-then-first-lt128-clause-length : goal.returns-then-first-lt128-clause-length
returns-then-first-lt128-clause-length c = λ letter is. (encode-long letter).one (omega (arith, is))

pub returns-then-first-lt224-clause-length : goal.returns-then-first-lt224-clause-length
returns-then-first-lt224-clause-length c = λ letter is. (encode-long letter).two (omega (arith, is)) (omega (arith, is))

pub returns-then-first-lt240-clause-length : goal.returns-then-first-lt240-clause-length
returns-then-first-lt240-clause-length c = λ letter is. (encode-long letter).three (omega (arith, is)) (omega (arith, is))

pub returns-else-first-lt240-clause-length : goal.returns-else-first-lt240-clause-length
returns-else-first-lt240-clause-length c = λ letter is. (encode-long letter).four (omega (arith, is))
