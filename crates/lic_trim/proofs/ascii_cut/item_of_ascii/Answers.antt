use Rattle.std.proofs.Common.{◌≡◌, ◌∙◌, sym, ap, length, append-nil, arith}
use Rattle.lic_kind.specs.LineRules.{rules_of}
use Rattle.lic_trim.specs.Lines.{item_length}
use Rattle.lic_trim.specs.Sources.{chars_of}
use Rattle.lic_trim.proofs.AsciiLemmas.{chars_of-placed, length-placed}
use Rattle.lic_trim.proofs.ascii_cut.item_of_ascii.Goals as goal

pub returns-then-has_no_item-clause-item : goal.returns-then-has_no_item-clause-item
returns-then-has_no_item-clause-item c = sym (c.has_no_item.ensures c.if-has_no_item.true (rules_of c.args.rules.now))

pub returns-clause-item : goal.returns-clause-item
returns-clause-item c =
    let characters = c.deref.ensures.value ∙ c.in_ok-put_source.ensures in
    c.item_length.ensures.item
    ∙ ap (item_length (rules_of c.args.rules.now)) (append-nil _ ∙ ap chars_of characters ∙ chars_of-placed 0 c.args.line.now)

pub returns-clause-within : goal.returns-clause-within
returns-clause-within c =
    let many : length c.deref.result.now ≡ length c.args.line.now =
    ap length (c.deref.ensures.value ∙ c.in_ok-put_source.ensures) ∙ length-placed 0 c.args.line.now in
    omega (arith, c.item_length.ensures.within)
