-- The end of a word lies so few bytes after the text's own end.
use Rattle.std.proofs.Common.{◌+◌, ◌-◌, ◌≤◌, length, map, drop, ap, subst, arith}
use Rattle.std.proofs.lemmas.List.{length-drop, take_all}
use Rattle.lic_markup.specs.Meaning.{parts_words}
use Rattle.lic_markup.specs.Parts.{part_of}
use Rattle.lic_norm.specs.Places.{place_end}
use Rattle.lic_places.specs.Places.{spelling_of}
use Rattle.lic_search.specs.Ends.{TakesAtMost}
use Rattle.lic_view.proofs.ViewPlaces.{end-within}
use Rattle.lic_search.proofs.ReachBounds.{IsBound, most_number}
use Rattle.lic_search.proofs.EndLists.{end-reached, ends-placed, ends-sound}
use Rattle.lic_keys.proofs.RequiredEndLemmas.{ends-text}
use Rattle.lic_search.proofs.ReachLemmas.{word-reach}
use Rattle.lic_search.proofs.ends.candidate_ends.Goals as goal

pub returns-clause-placed : goal.returns-clause-placed
returns-clause-placed c = ends-placed c.args.view.now c.in_ok-ends_within.field-0.items c.in_ok-ends_within.ensures.ends

pub returns-clause-sound : goal.returns-clause-sound
returns-clause-sound c = λ p last reached. ends-sound c.args.view.now c.in_ok-ends_within.field-0.items p last c.in_ok-ends_within.ensures.ends reached

pub returns-clause-complete : goal.returns-clause-complete
returns-clause-complete c = λ p last w is reads within.
    let tokens = c.args.view.now in
    let text = ends-text tokens c.args.parts.now c.args.number c.args.places.now p last w c.tokens_have_texts.ensures c.requires.text within is reads in
    let size : length (spelling_of tokens) ≤ most_number =
    omega (arith, ap length c.bytes-length.ensures, c.bytes-length.type_inv.0, c.bytes-length.type_inv.1) in
    let after = drop (c.args.number + 1) c.args.parts.now in
    let count : length after ≤ length c.args.parts.now - (c.args.number + 1) = omega (arith, length-drop (c.args.number + 1) c.args.parts.now) in
    let takes : IsBound (TakesAtMost (parts_words (map part_of after))) c.most_bytes.result =
    subst (λ l. IsBound (TakesAtMost (parts_words (map part_of l))) c.most_bytes.result) (take_all _ after count) c.most_bytes.ensures in
    let reach = word-reach tokens c.args.parts.now c.args.number c.args.places.now (place_end tokens last) c.most_bytes.result c.saturating_add-most.result
    text (omega (arith, end-within tokens last within)) c.saturating_add-most.ensures takes in
    end-reached tokens c.in_ok-ends_within.field-0.items last
    (c.in_ok-ends_within.ensures.all text.place last text.among within reach.0 reach.1)
