use Rattle.lic_elements.proofs.TextLemmas.{front_trimmed}
use Rattle.lic_elements.proofs.laws.white_space_is_taken_off_the_start.Goals as goal

pub returns : goal.returns
returns c = front_trimmed
