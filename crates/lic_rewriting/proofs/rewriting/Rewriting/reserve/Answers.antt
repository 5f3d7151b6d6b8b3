use Rattle.std.proofs.Common.{ap}
use Rattle.lic_rewriting.specs.declared.rewriting.Rewriting.{Rewriting}
use Rattle.lic_rewriting.proofs.rewriting.Rewriting.reserve.Goals as goal

pub returns : goal.returns
returns c = let self : Rewriting = c.args.self.now in ap (λ ts. record self { tokens = ts }) c.reserve.ensures
