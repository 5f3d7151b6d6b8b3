use Rattle.std.proofs.Common.{◌≡◌, ◌++◌, [], ap, sym, ◌∙◌}
use Rattle.std.specs.Str.{chars}
use Rattle.std.proofs.lemmas.Result.{on_ok_weaker}
use Rattle.lic_trim.specs.Sources.{placed, without_dropped}
use Rattle.lic_norm.proofs.AnyBytes.{source_of-utf8}
use Rattle.lic_norm.proofs.reader.characters.read_characters.Goals as goal

pub returns-in-Ok : goal.returns-in-Ok
returns-in-Ok c =
    let none : c.reserve.new.self.items ≡ [] = c.in_ok-reserve.ensures.items ∙ c.clear.ensures.items in
    let is = c.in-Ok.ensures.cases in
    on_ok_weaker c.push_text.result
    (λ added. added ∙ ap (λ l. l ++ without_dropped (placed c.args.at (chars c.in-Ok.text.now))) none
    ∙ ap (λ t. without_dropped (placed c.args.at (chars t))) is.0 ∙ ap without_dropped (sym (source_of-utf8 c.args.at c.args.bytes.now is.1)))
    c.push_text.ensures
