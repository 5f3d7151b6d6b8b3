use Rattle.lic_elements.proofs.TextLemmas.{end_trimmed}
use Rattle.lic_elements.proofs.laws.white_space_is_taken_off_the_end.Goals as goal

pub returns : goal.returns
returns c = end_trimmed
