-- One set fewer.
use Rattle.std.proofs.Common.{◌≡◌, ◌<◌, arith}
use Rattle.lic_vars.proofs.KeptLemmas.{sets-let_go}
use Rattle.lic_vars.proofs.keep.let_go.Goals as goal

pub returns-clause-sets : goal.returns-clause-sets
returns-clause-sets c = λ tokens instructions are.
    let some : 0 < c.args.number = omega arith in
    sets-let_go tokens instructions c.args.sets.now.items c.args.number are c.requires.within some
