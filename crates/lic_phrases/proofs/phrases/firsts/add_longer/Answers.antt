-- All bits of a byte but one.
use Rattle.std.proofs.Common.{◌<◌, length, arith}
use Rattle.lic_phrases.proofs.FirstsLemmas.{may_have-longer, may_have-grows_longer}
use Rattle.lic_phrases.proofs.phrases.firsts.add_longer.Goals as goal

pub returns-clause-added : goal.returns-clause-added
returns-clause-added c =
    let within : c.args.first < length c.args.lengths.now = omega arith in
    may_have-longer c.args.lengths.now c.args.first within

pub returns-clause-grows : goal.returns-clause-grows
returns-clause-grows c =
    let within : c.args.first < length c.args.lengths.now = omega arith in
    may_have-grows_longer c.args.lengths.now c.args.first within
