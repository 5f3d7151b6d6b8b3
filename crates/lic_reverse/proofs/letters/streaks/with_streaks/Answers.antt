use Rattle.lic_ere.specs.Trees.{tree_of}
use Rattle.lic_reverse.specs.Passing.{passes_of}
use Rattle.lic_reverse.specs.Tidily.{spans_of}
use Rattle.lic_reverse.proofs.TidyStreaks.{tidy-with_streaks}
use Rattle.lic_reverse.proofs.letters.streaks.with_streaks.Goals as goal

pub returns : goal.returns
returns c =
    tidy-with_streaks c.args.keep c.args.view.now (passes_of (tree_of c.args.ere.now)) c.args.count (spans_of c.args.ways.now) (spans_of c.in_ok-found.found)
    (spans_of c.in_ok-over_streaks.field-0) (spans_of c.append.new.self) c.requires c.in_ok-found.ensures c.in_ok-over_streaks.ensures c.in_ok-append.ensures
