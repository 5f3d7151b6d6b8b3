use Rattle.lic_trim.proofs.SequenceLemmas.{is_sequence-sound, is_sequence-complete}
use Rattle.lic_trim.proofs.laws.sequences_are_what_the_test_says.Goals as goal

pub returns : goal.returns
returns c = λ is_piece text. (is_sequence-sound is_piece text, is_sequence-complete is_piece text)
