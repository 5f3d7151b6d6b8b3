use Rattle.lic_fields.proofs.LineParts.{lanes_written}
use Rattle.lic_fields.proofs.line_pattern.copy_64.Goals as goal

pub returns-clause-copied : goal.returns-clause-copied
returns-clause-copied c = lanes_written c.args.bytes.now c.args.from.now c.args.offset 64 c.requires.fits c.requires.long
