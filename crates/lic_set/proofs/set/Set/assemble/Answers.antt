use Rattle.std.proofs.Common.{rules, arith, ◌≡◌, Ok, map, ap, ◌∙◌}
use Rattle.std.proofs.lemmas.Iterator.{YieldsList-from_map, items_from_collect}
use Rattle.std.proofs.lemmas.Iterator.Consumers.{YieldsList-at}
use Rattle.std.proofs.lemmas.Iterator.Adapters.{YieldsList-from_vec}
use Rattle.std.proofs.lemmas.Simd.{map-map}
use Rattle.std.specs.Global.{Global}
use Rattle.std.specs.Prelude.{String}
use Rattle.std.specs.declared.alloc.AllocError.{AllocError}
use Rattle.lic_markup.specs.Parts.{TemplateValue}
use Rattle.lic_set.specs.declared.set.Named.{Named}
use Rattle.lic_set.specs.Sets.{known_of}
use Rattle.lic_set.proofs.set.Set.assemble.Goals as goal

pub returns : goal.returns
returns c =
    let given = c.args.templates.items in
    let named : String Global × TemplateValue → Named = λ p. record { id = p.0; template = p.1 } in
    let made : c.in_ok-named.named.items ≡ map named given =
    items_from_collect {E = AllocError} (Ok c.in_ok-named.named) c.in_ok-named.ensures.ran
    (YieldsList-from_map _ named
    (YieldsList-at c.map.ensures.source
    (YieldsList-from_vec given c.into_iter.ensures.rest (omega arith))) c.map.ensures.closure (λ x r q k.
    search rules)) in
    ap (map known_of) made ∙ map-map known_of named given
