use Rattle.lic_marks.proofs.Shifting.{begin_sound, begin_complete}
use Rattle.lic_marks.proofs.laws.all_words_follow_the_beginning.Goals as goal

pub returns : goal.returns
returns c = λ r after v. (begin_sound r after v, begin_complete r after v)
