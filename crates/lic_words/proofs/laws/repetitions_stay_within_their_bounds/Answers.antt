use Rattle.lic_words.proofs.Languages.{between_sound, between_complete, at_least_sound, at_least_complete, repeated_only}
use Rattle.lic_words.proofs.laws.repetitions_stay_within_their_bounds.Goals as goal

pub returns-clause-between : goal.returns-clause-between
returns-clause-between c = λ d min max n. (between_sound d min max n, between_complete d min max n)

pub returns-clause-at_least : goal.returns-clause-at_least
returns-clause-at_least c = λ d min n. (at_least_sound d min n, at_least_complete d min n)

pub returns-clause-only : goal.returns-clause-only
returns-clause-only c = λ d min max w h. repeated_only d min max w h
