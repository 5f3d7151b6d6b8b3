use Rattle.lic_fields.proofs.LineFronts.{four_put}
use Rattle.lic_fields.proofs.line_pattern.write_four.Goals as goal

pub returns : goal.returns
returns c = four_put c.args.bytes.now c.args.four c.args.end c.requires.0 c.requires.1.0 c.requires.1.1
