use Rattle.std.proofs.Common.{◌∷◌, ◌∙◌, sym, ap₂}
use Rattle.std.specs.Prelude.{◌&&◌, ◌||◌, ◌==◌}
use Rattle.lic_trim.proofs.ItemFronts.{no_item_sign}
use Rattle.lic_trim.proofs.PlainEdges.{no_item_letter, no_item_other, not_on}
use Rattle.lic_trim.proofs.plain_edges.begins_no_item.Goals as goal

pub returns-then-is_ascii_alphabetic : goal.returns-then-is_ascii_alphabetic
returns-then-is_ascii_alphabetic c = λ yes rules past.
    no_item_letter c.args.first c.args.second (sym c.is_ascii_alphabetic.ensures.value ∙ c.if-is_ascii_alphabetic.true)
    (ap₂ (λ a b. ((c.args.second == 0x2E) || (c.args.second == 0x29)) || (a && b)) (sym c.is_roman_digit.ensures) (sym c.is_roman_digit-then-is_ascii_alphabetic.ensures) ∙ not_on _ yes)
    rules past

pub returns-then-not-may_begin_item : goal.returns-then-not-may_begin_item
returns-then-not-may_begin_item c = λ yes rules past.
    no_item_other c.args.first (sym c.may_begin_item.ensures ∙ c.if-not-may_begin_item.true) rules (c.args.second ∷ past)

pub returns : goal.returns
returns c = λ yes rules past.
    no_item_sign c.args.first c.args.second (sym c.is_ascii_alphabetic.ensures.value ∙ c.if-is_ascii_alphabetic.false)
    (ap₂ (λ a b. (a || (c.args.first == 0x28)) || b) (sym c.is_ascii_digit.ensures.value) (sym c.is_whitespace.ensures) ∙ not_on _ yes)
    rules past
