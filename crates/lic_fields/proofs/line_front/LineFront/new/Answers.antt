use Rattle.std.proofs.Common.{◌≡◌, ◌+◌, [], length, take, ap, sym, ◌∙◌, arith, length-append}
use Rattle.std.proofs.lemmas.Grind.{common_steps}
use Rattle.std.proofs.lemmas.List.{with_items_is, take_at}
use Rattle.lic_fields.specs.Fronts.{last_digits}
use Rattle.lic_fields.proofs.LineFronts.{kept_of, same_stays}
use Rattle.lic_fields.proofs.Thousands.{ends_three}
use Rattle.lic_fields.proofs.line_front.LineFront.new.Goals as goal

pub invariant_of-result : goal.invariant_of-result
invariant_of-result c =
    let same = c.len-same.result in
    let len = c.write_numbers-first_end.result.1 in
    let old = c.deref_mut.result.now in
    let bytes = c.write_numbers-first_end.new.bytes in
    let start : same ≡ length c.args.bytes.items = grind (arith, common_steps) in
    let more : length old ≡ length c.args.bytes.items + 170 =
    ap length (c.deref_mut.ensures.value ∙ c.in_ok-extend_from_slice.ensures.items) ∙ length-append c.args.bytes.items _ in
    let held = with_items_is c.extend_from_slice.new.self bytes (omega (arith, c.write_numbers-first_end.auto, c.deref_mut.ensures.len)) in
    let long : length bytes ≡ length old = c.write_numbers-first_end.ensures.len in
    let hundred = ends_three 100 (omega arith) (omega arith) in
    rw (held, c.hundreds.ensures)
    (kept_of old bytes same len 100 100 (omega (arith, start, more)) (omega (arith, start, more, long, c.write_numbers-first_end.ensures.end))
    c.write_numbers-first_end.ensures.written c.write_numbers-first_end.result.0 [] (last_digits 100) (last_digits 100) hundred hundred
    c.write_numbers-first_end.ensures.first c.write_numbers-first_end.ensures.end (omega (arith, start, more, long)))

pub returns : goal.returns
returns c =
    let same = c.len-same.result in
    let len = c.write_numbers-first_end.result.1 in
    let old = c.deref_mut.result.now in
    let bytes = c.write_numbers-first_end.new.bytes in
    let start : same ≡ length c.args.bytes.items = grind (arith, common_steps) in
    let added = c.deref_mut.ensures.value ∙ c.in_ok-extend_from_slice.ensures.items in
    let more : length old ≡ length c.args.bytes.items + 170 = ap length added ∙ length-append c.args.bytes.items _ in
    let held = with_items_is c.extend_from_slice.new.self bytes (omega (arith, c.write_numbers-first_end.auto, c.deref_mut.ensures.len)) in
    let long : length bytes ≡ length old = c.write_numbers-first_end.ensures.len in
    ap (take same) held
    ∙ (same_stays old bytes same len 100 100 (omega (arith, start, more)) (omega (arith, start, more, long, c.write_numbers-first_end.ensures.end))
    c.write_numbers-first_end.ensures.written
    ∙ (ap (take same) added ∙ take_at c.args.bytes.items _ same (sym start)))
