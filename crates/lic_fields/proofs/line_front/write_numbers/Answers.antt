use Rattle.std.proofs.Common.{◌≡◌, ◌+◌, ◌∷◌, ◌++◌, [], List, ℕ, length, ap, ◌∙◌, arith, length-append}
use Rattle.std.specs.Prelude.{decimal}
use Rattle.lic_fields.specs.Fields.{field}
use Rattle.lic_fields.proofs.LineParts.{parts_written}
use Rattle.lic_fields.proofs.line_front.write_numbers.Goals as goal

pub returns-clause-written : goal.returns-clause-written
returns-clause-written c =
    let first : List ℕ = field (decimal c.args.first) 0x09 in
    let second : List ℕ = field (decimal c.args.second) 0x09 in
    let long : length c.write_number-at.new.buffer ≡ 84 = c.write_number-at.ensures.len ∙ c.write_number-middle.ensures.len in
    let one : length first ≡ length (decimal c.args.first) + 1 = length-append (decimal c.args.first) (0x09 ∷ []) in
    let two : length second ≡ length (decimal c.args.second) + 1 = length-append (decimal c.args.second) (0x09 ∷ []) in
    let ends = c.write_number-at.ensures.digits in
    let middle = c.write_number-middle.ensures.digits in
    parts_written c.args.bytes.now c.copy_from_slice.new.self c.write_number-at.new.buffer first second _ c.args.same c.write_number-at.result
    c.requires (omega (arith, ends, middle)) long c.copy_from_slice.ensures.after
    (c.write_number-at.ensures.written ∙ ap (λ l. first ++ l) c.write_number-middle.ensures.written) (omega (arith, one, two, ends, middle))
