use Rattle.lic_fields.proofs.LineParts.{text_written}
use Rattle.lic_fields.proofs.line_pattern.write_text.Goals as goal

pub returns-clause-written : goal.returns-clause-written
returns-clause-written c =
    text_written c.args.bytes.now c.args.text.now c.args.end c.args.len c.requires.0 c.requires.1.0 c.requires.1.1
