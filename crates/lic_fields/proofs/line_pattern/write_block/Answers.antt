use Rattle.std.proofs.Common.{arith}
use Rattle.lic_fields.proofs.LineParts.{parts_front}
use Rattle.lic_fields.proofs.line_pattern.write_block.Goals as goal

pub returns-then-len-le-SHORT-clause-written : goal.returns-then-len-le-SHORT-clause-written
returns-then-len-le-SHORT-clause-written c =
    parts_front c.args.bytes.now c.copy_64.new.bytes c.copy_16.new.bytes c.args.block.now c.args.offset 64 16 c.args.len
    (omega (arith, c.requires.fits)) (omega (arith, c.requires.long)) (omega (arith, c.if-len-le-SHORT.true))
    c.copy_64.ensures.copied c.copy_16.ensures.copied

pub returns-clause-written : goal.returns-clause-written
returns-clause-written c =
    parts_front c.args.bytes.now c.copy_64-2.new.bytes c.copy_64-3.new.bytes c.args.block.now c.args.offset 64 64 c.args.len
    (omega (arith, c.requires.fits)) (omega (arith, c.requires.long)) (omega (arith, c.requires.short))
    c.copy_64-2.ensures.copied c.copy_64-3.ensures.copied
