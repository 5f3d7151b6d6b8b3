use Rattle.std.proofs.Common.{Some, None}
use Rattle.lic_norm.proofs.LineCuts.{line_end-is}
use Rattle.lic_norm.proofs.reader.lines.line_end.Goals as goal

pub returns-in-Some-clause-line : goal.returns-in-Some-clause-line
returns-in-Some-clause-line c = line_end-is c.args.bytes.now (Some c.in-Some.offset) c.in-Some.ensures

pub returns-in-None-clause-line : goal.returns-in-None-clause-line
returns-in-None-clause-line c = line_end-is c.args.bytes.now None c.in-None.ensures
