use Rattle.lic_search.proofs.search.ends_of.Goals as goal

pub returns-in_default-clause-sound : goal.returns-in_default-clause-sound
returns-in_default-clause-sound c = λ p last r. (c.in_ok-token_ends.ensures.all p last).0 r
