-- A slot is that of a window.
use Rattle.std.proofs.Common.{◌≡◌, ◌<◌, length, map, Some, sym, ◌∙◌, arith}
use Rattle.std.proofs.lemmas.List.{length-map}
use Rattle.std.proofs.lemmas.Option.{slice_get_within}
use Rattle.lic_literals.specs.Hits.{slot_of}
use Rattle.lic_literals.proofs.hits.Hits.offsets.Goals as goal

pub offsets_in-requires : goal.offsets_in-requires
offsets_in-requires c =
    let old = c.args.self.now in
    let slot = c.in-Some.slot in
    let at : slot_of old c.args.window ≡ Some slot = sym c.get.ensures.value ∙ sym c.copied.ensures ∙ c.in-Some.is in
    let within : slot < length (map (λ s. s.window) old.occurrences.items) =
    slice_get_within (map (λ s. s.window) old.occurrences.items) slot c.args.window (old.placed c.args.window slot at) in
    omega (arith, within, length-map old.occurrences.items (λ s. s.window))
