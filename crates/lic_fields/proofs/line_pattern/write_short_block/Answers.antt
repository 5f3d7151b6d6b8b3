use Rattle.std.proofs.Common.{arith}
use Rattle.lic_fields.proofs.LineParts.{front_copied, parts_front}
use Rattle.lic_fields.proofs.line_pattern.write_short_block.Goals as goal

pub returns-then-len-le-SHORTEST-clause-written : goal.returns-then-len-le-SHORTEST-clause-written
returns-then-len-le-SHORTEST-clause-written c =
    front_copied c.args.bytes.now c.copy_32.new.bytes c.args.block.now c.args.offset 32 c.args.len
    (omega (arith, c.requires.fits)) (omega (arith, c.if-len-le-SHORTEST.true)) c.copy_32.ensures.copied

pub returns-clause-written : goal.returns-clause-written
returns-clause-written c =
    parts_front c.args.bytes.now c.copy_32-2.new.bytes c.copy_16.new.bytes c.args.block.now c.args.offset 32 16 c.args.len
    (omega (arith, c.requires.fits)) (omega (arith, c.requires.long)) (omega (arith, c.requires.short))
    c.copy_32-2.ensures.copied c.copy_16.ensures.copied
