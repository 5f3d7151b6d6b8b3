use Rattle.lic_phrases.proofs.ClassLemmas.{equivalent_self, equivalent_back, equivalent_through, equivalent_step, leads_alike}
use Rattle.lic_phrases.proofs.laws.chains_join_phrases.Goals as goal

pub returns-clause-itself : goal.returns-clause-itself
returns-clause-itself c = λ lines p. equivalent_self lines p

pub returns-clause-back : goal.returns-clause-back
returns-clause-back c = λ lines p q. equivalent_back lines p q

pub returns-clause-through : goal.returns-clause-through
returns-clause-through c = λ lines p q r. equivalent_through lines p q r

pub returns-clause-line : goal.returns-clause-line
returns-clause-line c = λ lines p q. equivalent_step lines p q

pub returns-clause-least : goal.returns-clause-least
returns-clause-least c = λ lines f alike p q joined. leads_alike lines f p q joined.0 alike joined.1
