use Rattle.std.proofs.lemmas.Simd.{get_or-chunk}
use Rattle.lic_letters.proofs.wide.own.load.Goals as goal

pub returns : goal.returns
returns c = λ i small. get_or-chunk c.args.at 16 c.args.bytes.now i 0 small
