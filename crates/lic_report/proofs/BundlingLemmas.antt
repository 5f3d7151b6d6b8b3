-- The triples that bundles hold are those of any one of them.
use Rattle.std.proofs.Common.{List}
use Rattle.std.specs.List.{Any}
use Rattle.lic_set.specs.declared.triple.Triple.{Triple}
use Rattle.lic_bundles.specs.Bundles.{IsOf}
use Rattle.lic_bundles.specs.declared.bundle.Bundle.{Bundle}
use Rattle.lic_search.specs.AllMatches.{BundlesHold}

pub held_by_bundles : (bundles : List Bundle) (t : Triple) → Any (λ b. IsOf b t) bundles → BundlesHold bundles t
held_by_bundles bundles t (k, b, within, is, of) =
    record { bundle = b; among = (k, within, is); is = of }

pub held_by_any : (bundles : List Bundle) (t : Triple) → BundlesHold bundles t → Any (λ b. IsOf b t) bundles
held_by_any bundles t held =
    let (k, within, is) = held.among in (k, held.bundle, within, is, held.is)
