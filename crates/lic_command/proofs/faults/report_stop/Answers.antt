use Rattle.std.proofs.Common.{codes}
use Rattle.lic_command.proofs.faults.report_stop.Goals as goal

pub returns-in-Err : goal.returns-in-Err
returns-in-Err g c = (codes "out of memory", c.tell-in-Err.ensures)
