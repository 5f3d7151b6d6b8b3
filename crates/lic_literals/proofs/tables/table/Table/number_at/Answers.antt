-- The first bytes there are the window.
use Rattle.std.proofs.Common.{◌≡◌, ◌-◌, length, take, drop, sym, ap, ◌∙◌, arith}
use Rattle.std.proofs.lemmas.List.{length-drop, take_all}
use Rattle.memchr.proofs.lemmas.MatchLemmas.{OccursAt-part}
use Rattle.lic_literals.specs.Tables.{number_of}
use Rattle.lic_literals.proofs.tables.table.Table.number_at.Goals as goal

pub returns : goal.returns
returns g c = λ w size occurs.
    let bytes = c.args.bytes.now in
    let offset = c.args.offset in
    let past : length (drop offset bytes) ≡ length bytes - offset = length-drop offset bytes in
    let whole : take (length bytes - offset) (drop offset bytes) ≡ drop offset bytes = take_all (length bytes - offset) (drop offset bytes) (omega arith) in
    let window : c.in_ok-window.window.now ≡ w =
    c.in_ok-window.ensures.cases.same ∙ ap (take g.row.LENGTH) whole ∙ ap (λ n. take n (drop offset bytes)) (sym size) ∙ OccursAt-part bytes w offset occurs in
    c.copied.ensures ∙ c.get.ensures.value ∙ ap (number_of c.args.self.now) window
