use Rattle.lic_ere.specs.Views.{left}
use Rattle.lic_ere.proofs.BoundSpelling.{upper_gives}
use Rattle.lic_ere.proofs.lexeme.bounds.upper_bound.Goals as goal

pub returns-then-min-max : goal.returns-then-min-max
returns-then-min-max c =
    upper_gives (left c.args.rest) (left c.in_ok-character.after) (left c.in_ok-max.rest) (left c.in_ok-character-2.rest) c.args.min c.in_ok-max.max _ _
    c.in_ok-character.ensures.some c.if-character-eq125.false c.in_ok-max.ensures c.in_ok-character-2.ensures.some c.if-character-eq125-2.true c.if-min-max.true
