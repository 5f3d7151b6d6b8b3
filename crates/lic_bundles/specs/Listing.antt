-- The triples of bundles as a list that computes.
use Rattle.std.specs.Prelude.{ℕ, ◌+◌, ◌-◌, zero, suc, if◌then◌else◌, List, [], ◌∷◌}
use Rattle.lic_set.specs.declared.triple.Triple.{Triple}
use Rattle.lic_bundles.specs.declared.bundle.Bundle.{Bundle}
use Rattle.lic_set.specs.Matches.{triple_at, precedes}

-- a triple put into an ascending list, unless it is there
abbrev pub put : Triple → List Triple → List Triple
put t [] = t ∷ []
put t (s ∷ ss) = if precedes t s then t ∷ (s ∷ ss) else (if precedes s t then s ∷ put t ss else s ∷ ss)

-- that many triples of a bundle, from its first on, put into an ascending list
abbrev pub put_bundle : ℕ → Bundle → List Triple → List Triple
put_bundle zero b ss = ss
put_bundle (suc n) b ss = put (triple_at (b.from + n) b.last b.template) (put_bundle n b ss)

-- the triples of bundles, in order
unfoldable pub all_triples : List Bundle → List Triple
all_triples [] = []
all_triples (b ∷ bs) = put_bundle (b.to + 1 - b.from) b (all_triples bs)
