use Rattle.std.proofs.Common.{◌++◌, ap, ◌∙◌}
use Rattle.std.proofs.lemmas.List.{append-nil}
use Rattle.lic_reverse.specs.Tidily.{spans_of}
use Rattle.lic_reverse.proofs.ways.reached.Reached.new.Goals as goal

pub returns : goal.returns
returns c = λ s. ap (λ x. spans_of c.args.ways s ++ x) (c.none.ensures s) ∙ append-nil (spans_of c.args.ways s)
