use Rattle.std.proofs.Common.{◌≡◌, ◌∙◌, ◌&&◌, Bool, true, false, refl, sym, ap, length, arith}
use Rattle.std.specs.Prelude.{option_to_list, take, drop, ◌++◌, ◌-◌, ◌+◌}
use Rattle.std.proofs.lemmas.List.{length-map, length-take-le}
use Rattle.lic_trim.specs.Sources.{chars_of}
use Rattle.lic_kind.specs.LineRules.{rules_of}
use Rattle.lic_trim.specs.Lines.{is_item_form}
use Rattle.lic_trim.proofs.ItemLemmas.{char_of, item_none, item_value, item_on, item_off, few_after, lets}
use Rattle.lic_trim.proofs.item.item_length.Goals as goal
use Rattle.lic_trim.proofs.item.item_length.Goals.{else-is_item_form-via-then-is_item_form+else-lets_item, else-is_item_form-via-else-is_item_form}

pub returns-then-begins_as_no_item-clause-item : goal.returns-then-begins_as_no_item-clause-item
returns-then-begins_as_no_item-clause-item c =
    sym (c.begins_as_no_item.ensures c.if-begins_as_no_item.true (rules_of c.args.rules.now) (option_to_list c.args.past))

pub returns-then-end-line-clause-item : goal.returns-then-end-line-clause-item
returns-then-end-line-clause-item c =
    let many : length (chars_of c.args.line.now) ≡ length c.args.line.now = length-map c.args.line.now char_of in
    sym (item_none (rules_of c.args.rules.now) (chars_of c.args.line.now) (option_to_list c.args.past)
    (omega (arith, c.first_space-end.ensures.index)) (few_after c.args.past))

pub slice_bounds-form-end : goal.slice_bounds-form-end
slice_bounds-form-end c = sym (length-take-le c.first_space-end.result c.args.line.now (omega arith))

pub returns-then-lets_item-clause-item : goal.returns-then-lets_item-clause-item
returns-then-lets_item-clause-item c =
    let line = c.args.line.now in
    let end = c.first_space-end.result in
    let form = chars_of (take end line) in
    let rest = chars_of (take (length line - (end + 1)) (drop (end + 1) line)) ++ option_to_list c.args.past in
    item_on c.args.rules.now.items (is_item_form form) (lets form rest) end
    (sym c.items.ensures ∙ c.if-not-items.false) (sym c.is_item_form.ensures ∙ c.if-is_item_form.true)
    (sym c.lets_item.ensures ∙ c.if-lets_item.true)
    ∙ sym (item_value (rules_of c.args.rules.now) line (option_to_list c.args.past) end c.first_space-end.ensures.index (omega arith))

pub returns-else-is_item_form-clause-item : goal.returns-else-is_item_form-clause-item
returns-else-is_item_form-clause-item c =
    let line = c.args.line.now in
    let end = c.first_space-end.result in
    let form = chars_of (take end line) in
    let rest = chars_of (take (length line - (end + 1)) (drop (end + 1) line)) ++ option_to_list c.args.past in
    let off : (is_item_form form && lets form rest) ≡ false = elim c.else-is_item_form.branch [
      | else-is_item_form-via-then-is_item_form+else-lets_item w ↦ no_right (is_item_form form) (lets form rest)
          (sym w.lets_item.ensures ∙ w.if-lets_item.false)
      | else-is_item_form-via-else-is_item_form w ↦ ap (λ b. b && lets form rest) (sym c.is_item_form.ensures ∙ w.if-is_item_form.false)
    ] in
    item_off c.args.rules.now.items (is_item_form form) (lets form rest) end off
    ∙ sym (item_value (rules_of c.args.rules.now) line (option_to_list c.args.past) end c.first_space-end.ensures.index (omega arith))
  where
    no_right : (a b : Bool) → b ≡ false → (a && b) ≡ false
    no_right true b off = off
    no_right false b off = refl
