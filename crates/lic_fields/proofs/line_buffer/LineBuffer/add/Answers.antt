use Rattle.std.proofs.Common.{◌≡◌, ◌+◌, ◌++◌, length, take, sym, ap, ap₂, ◌∙◌, arith}
use Rattle.std.proofs.lemmas.Grind.{common_steps}
use Rattle.std.proofs.lemmas.List.{with_items_is}
use Rattle.lic_fields.proofs.line_buffer.LineBuffer.add.Goals as goal

pub returns : goal.returns
returns c =
    let start = c.self.inside.len in
    let line = c.deref.result.now in
    let bytes = c.write_bytes.new.bytes in
    let whole : c.len-count.result ≡ length c.set_fields.new.line.items = grind (arith, common_steps) in
    let count : c.len-count.result ≡ length line = whole ∙ ap length (sym c.deref.ensures.value) in
    let held = with_items_is c.make_space.new.bytes bytes (omega (arith, c.write_bytes.auto, c.deref_mut.ensures.len)) in
    c.make_space-2.ensures.front
    ∙ (ap (take (start + c.len-count.result)) held
    ∙ (ap (λ n. take (start + n) bytes) count
    ∙ (c.write_bytes.ensures.written
    ∙ ap₂ (λ x y. x ++ y) (ap (take start) c.deref_mut.ensures.value ∙ (c.make_space.ensures.front ∙ c.self.view_is))
    (c.deref.ensures.value ∙ c.in_ok-set_fields.ensures))))
