-- Joined words.
use Rattle.lic_places.proofs.Reading.{Reads-cut, Reads-joined}
use Rattle.lic_places.proofs.laws.joined_words_are_read_one_after_another.Goals as goal

pub returns : goal.returns
returns c = λ tokens u v p q. (Reads-cut tokens u v p q, λ both. Reads-joined tokens u v p both.0 q both.1 both.2)
