-- The window begins where the counts say.
use Rattle.std.proofs.Common.{◌≡◌, ◌+◌, ◌-◌, ◌<◌, length, take, drop, ap, ◌∙◌, subst, arith}
use Rattle.std.specs.Prelude.{MatchOption, slice_range}
use Rattle.std.specs.Array.{IsFirstChunk}
use Rattle.std.proofs.lemmas.List.{length-drop, take_all}
use Rattle.lic_literals.specs.Tables.{AddsWindow}
use Rattle.lic_literals.proofs.WindowLemmas.{adds_key}
use Rattle.lic_literals.proofs.tables.add_to.Goals as goal

pub returns : goal.returns
returns g c =
    let literal = c.args.literal.now in
    let start = c.rarest-start.result in
    let LENGTH = g.row.LENGTH in
    let size : length (drop start literal) ≡ length literal - start = length-drop start literal in
    let chunk : IsFirstChunk (take (length literal - start) (drop start literal)) c.unwrap-window.result.now LENGTH =
    subst (λ r. MatchOption r (length (take (length literal - start) (drop start literal)) < LENGTH) (λ y. IsFirstChunk (take (length literal - start) (drop start literal)) y.now LENGTH))
    c.unwrap-window.ensures c.first_chunk.ensures.cases in
    let whole : take (length literal - start) (drop start literal) ≡ drop start literal = take_all (length literal - start) (drop start literal) (omega arith) in
    let here : LENGTH ≡ start + LENGTH - start = omega arith in
    let window : c.unwrap-window.result.now ≡ slice_range literal start (start + LENGTH) =
    chunk.same ∙ ap (take LENGTH) whole ∙ ap (λ n. take n (drop start literal)) here in
    adds_key literal c.args.number start c.in_ok-add.field-0 c.args.table.now c.add.new.self c.rarest-start.ensures
    (subst (λ w. AddsWindow w c.args.number c.in_ok-add.field-0 c.args.table.now c.add.new.self) window c.in_ok-add.ensures)
