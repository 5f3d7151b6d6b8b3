use Rattle.lic_ere.specs.Views.{left}
use Rattle.lic_ere.proofs.BracketSpelling.{is_spelled, is_read}
use Rattle.lic_ere.proofs.lexeme.brackets.bracket.Goals as goal

pub returns-clause-found : goal.returns-clause-found
returns-clause-found c = is_spelled c.args.offset (left c.args.rest) c.bracket_after.result c.bracket_after.ensures

pub returns-clause-only : goal.returns-clause-only
returns-clause-only c b end is = is_read c.args.offset (left c.args.rest) c.bracket_after.result b end is c.bracket_after.ensures
