-- A number of the span lies in the text.
use Rattle.std.proofs.Common.{arith}
use Rattle.lic_view.proofs.ViewSpans.{within-one}
use Rattle.lic_view.proofs.sets.places.has_place.Goals as goal

pub place_of-requires : goal.place_of-requires
place_of-requires c = within-one c.args.view.now c.args.span _ c.requires (omega arith) (omega arith)
