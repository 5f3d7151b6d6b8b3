use Rattle.std.proofs.Common.{drop}
use Rattle.lic_find.specs.Firsts.{noted_at}
use Rattle.lic_find.specs.Starts.{starts_in}
use Rattle.lic_find.proofs.finder.begin_next.Goals as goal

pub begin-requires : goal.begin-requires
begin-requires c =
    c.requires (noted_at c.in_ok-noted.noted.first c.in_ok-noted.noted.numbers.now) (drop 1 (starts_in c.args.starts.now)) c.in_ok-noted.ensures.some
