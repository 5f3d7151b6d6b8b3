-- What a word spells ends no earlier than it begins.
use Rattle.lic_places.proofs.Reading.{Reads-order, Reads-most}
use Rattle.lic_places.proofs.laws.a_word_is_read_forward.Goals as goal

pub returns-clause-order : goal.returns-clause-order
returns-clause-order c = Reads-order

pub returns-clause-most : goal.returns-clause-most
returns-clause-most c = Reads-most
