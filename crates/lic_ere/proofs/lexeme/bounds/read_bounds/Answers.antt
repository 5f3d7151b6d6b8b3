use Rattle.lic_ere.specs.Views.{left}
use Rattle.lic_ere.proofs.BoundSpelling.{is_spelled, is_read}
use Rattle.lic_ere.proofs.lexeme.bounds.read_bounds.Goals as goal

pub returns-clause-found : goal.returns-clause-found
returns-clause-found c = is_spelled (left c.args.rest) c.bounds_after.result c.bounds_after.ensures

pub returns-clause-only : goal.returns-clause-only
returns-clause-only c b end is = is_read (left c.args.rest) c.bounds_after.result b end is c.bounds_after.ensures
