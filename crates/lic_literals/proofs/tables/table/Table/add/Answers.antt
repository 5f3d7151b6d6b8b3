-- The window has a number already, or gets one.
use Rattle.std.proofs.Common.{sym, ◌∙◌}
use Rattle.lic_literals.specs.Tables.{number_of}
use Rattle.lic_literals.proofs.TableLemmas.{adds_known, adds_new}
use Rattle.lic_literals.proofs.tables.table.Table.add.Goals as goal

pub returns-in-Some : goal.returns-in-Some
returns-in-Some g c =
    adds_known c.args.window.now c.args.number c.args.self.now c.flag.new.self c.in-Some.known c.flag.ensures c.told-window
    (sym c.get.ensures.value ∙ sym c.copied.ensures ∙ c.in-Some.is)

pub returns : goal.returns
returns g c =
    let mid = c.flag.new.self in
    adds_new c.args.window.now c.args.number c.args.self.now (record { grams = mid.grams; starts = mid.starts; numbers = c.insert.new.self })
    (number_of mid)
    (λ start within. record { anywhere = (c.flag.ensures.flagged start within).anywhere; there = (c.flag.ensures.flagged start within).there })
    (λ gram start h. let kept = c.flag.ensures.kept gram start h in record { anywhere = kept.anywhere; there = kept.there })
    (λ w. sym (c.flag.ensures.numbers w))
    c.told-window
    (sym c.get.ensures.value ∙ sym c.copied.ensures ∙ c.in_default.is)
    c.in_ok-insert.ensures.updates.0
