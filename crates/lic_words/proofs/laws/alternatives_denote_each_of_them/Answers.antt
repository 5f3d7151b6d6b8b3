use Rattle.lic_words.proofs.Languages.{alternatives_sound, alternatives_complete}
use Rattle.lic_words.proofs.laws.alternatives_denote_each_of_them.Goals as goal

pub returns : goal.returns
returns c = λ xs w. (alternatives_sound xs w, alternatives_complete xs w)
