use Rattle.lic_ere.specs.Views.{left}
use Rattle.lic_ere.proofs.BoundSpelling.{exactly_gives, comma_gives}
use Rattle.lic_ere.proofs.lexeme.bounds.bounds_after.Goals as goal

pub returns-in-125 : goal.returns-in-125
returns-in-125 c =
    exactly_gives (left c.args.rest) (left c.in_ok-min.rest)
    (left c.in_ok-character.rest) c.in_ok-min.min _ c.in_ok-min.ensures c.in_ok-character.ensures.some c.in-125.is

pub returns-in-44 : goal.returns-in-44
returns-in-44 c =
    comma_gives (left c.args.rest) (left c.in_ok-min.rest)
    (left c.in_ok-character.rest) c.in_ok-min.min _ _ c.in_ok-min.ensures c.in_ok-character.ensures.some c.in-44.is c.upper_bound.ensures
