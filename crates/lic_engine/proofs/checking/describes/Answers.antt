use Rattle.std.proofs.Common.{rules, ◌≡◌, ◌+◌, length, arith}
use Rattle.std.proofs.lemmas.Grind.{common_steps}
use Rattle.lic_engine.proofs.CheckLemmas.{described_all}
use Rattle.lic_engine.proofs.checking.describes.Goals as goal

pub returns : goal.returns
returns c = λ d.
    let count : c.in-Some.last + 1 ≡ length c.args.text.now.tokens = first_of (omega arith, search rules, grind (arith, common_steps)) in
    described_all c.args.set.now c.args.text.now.tokens c.args.k c.in-Some.last d c.is_match.result c.requires count c.is_match.ensures
