use Rattle.std.proofs.Common.{◌++◌, ◌∷◌, [], ap, sym, ◌∙◌, append_assoc}
use Rattle.lic_fields.specs.Fields.{field}
use Rattle.lic_fields.proofs.PlainBytes.{plain-stay}
use Rattle.lic_fields.proofs.line_buffer.add_last.Goals as goal

pub returns-then-is_plain : goal.returns-then-is_plain
returns-then-is_plain c =
    let text = c.args.text.now in
    c.in_ok-push.ensures.items
    ∙ (ap (λ l. l ++ 0x0A ∷ []) c.in_ok-extend_from_slice.ensures.items
    ∙ (append_assoc c.args.line.now.items text (0x0A ∷ [])
    ∙ ap (λ t. c.args.line.now.items ++ field t 0x0A) (sym (plain-stay text (c.requires c.if-is_plain.true)))))
