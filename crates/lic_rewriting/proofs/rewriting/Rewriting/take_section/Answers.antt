use Rattle.std.proofs.Common.{◌∙◌, arith}
use Rattle.lic_rewriting.proofs.LeftTokens.{all_taken}
use Rattle.lic_rewriting.proofs.rewriting.Rewriting.take_section.Goals as goal

pub returns-clause-taken : goal.returns-clause-taken
returns-clause-taken c = λ taken has.
    let tokens = c.args.section.now in
    let until = c.in_ok-take_until.ensures in
    all_taken tokens tokens _ _ _ until.taken (omega (arith, until.from, c.len-2.ensures)) taken
    (record { settled = has.settled; settles = has.settles; listed = c.reserve.ensures ∙ has.listed; known = has.known; texts = has.texts })
