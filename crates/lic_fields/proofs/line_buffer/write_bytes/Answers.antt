use Rattle.std.proofs.Common.{◌+◌, ◌-◌, ◌++◌, length, take, ap, ◌∙◌, arith, take_all}
use Rattle.lic_fields.proofs.LineParts.{take_put}
use Rattle.lic_fields.proofs.line_buffer.write_bytes.Goals as goal

pub returns-clause-written : goal.returns-clause-written
returns-clause-written c =
    let from = c.args.from.now in
    let mid = c.copy_from_slice.new.self in
    let mid_is = c.copy_from_slice.ensures.after in
    take_put c.args.bytes.now mid c.args.offset (c.args.offset + length from - c.args.offset) (length from) (omega (arith, c.requires.fits))
    (omega (arith, ap length mid_is))
    ∙ ap (λ l. take c.args.offset c.args.bytes.now ++ l) (ap (take (length from)) mid_is ∙ take_all (length from) from (omega arith))
