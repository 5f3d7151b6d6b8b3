use Rattle.std.proofs.Common.{refl}
use Rattle.lic_words.proofs.laws.tidy_words_have_no_loose_blanks.Goals as goal

pub returns-clause-first : goal.returns-clause-first
returns-clause-first c = λ a v h. h.1.not_first v refl

pub returns-clause-last : goal.returns-clause-last
returns-clause-last c = λ a u h. h.1.not_last u refl

pub returns-clause-two : goal.returns-clause-two
returns-clause-two c = λ a u v h. h.1.not_two u v refl
