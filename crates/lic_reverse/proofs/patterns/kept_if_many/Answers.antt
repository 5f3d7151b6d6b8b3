use Rattle.lic_reverse.specs.Tidily.{spans_of}
use Rattle.lic_reverse.proofs.TidyBack.{tidy-stay}
use Rattle.lic_reverse.proofs.patterns.kept_if_many.Goals as goal

pub returns-then-longest-most : goal.returns-then-longest-most
returns-then-longest-most c = tidy-stay c.args.keep c.args.view.now (spans_of c.args.ways) c.requires
