use Rattle.std.proofs.Common.{◌≡◌, ◌++◌, ◌∷◌, [], codes, map, ap, sym, ◌∙◌}
use Rattle.std.specs.String.{string_bytes}
use Rattle.std.proofs.lemmas.List.{append_cancel_right, map-append}
use Rattle.lic_load.proofs.templates.add_id.Goals as goal

pub returns-clause-added : goal.returns-clause-added
returns-clause-added c = λ id is.
    let ids = c.args.ids.now.items in
    let same : c.in-Some.id.now ≡ id = append_cancel_right c.in-Some.id.now id (codes ".template.txt") (sym c.in-Some.ensures.some.1 ∙ is.1) in
    ap (map string_bytes) c.in_ok-push.ensures.items ∙ map-append string_bytes ids (c.in_ok-to_string.field-0 ∷ [])
    ∙ ap (λ bytes. map string_bytes ids ++ bytes ∷ []) (c.in_ok-to_string.ensures.ok ∙ same)
