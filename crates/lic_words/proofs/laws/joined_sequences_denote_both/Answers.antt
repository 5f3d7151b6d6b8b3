use Rattle.lic_words.proofs.Languages.{sequences_sound, sequences_complete}
use Rattle.lic_words.proofs.laws.joined_sequences_denote_both.Goals as goal

pub returns : goal.returns
returns c = λ xs ys w. (sequences_sound xs ys w, sequences_complete xs ys w)
