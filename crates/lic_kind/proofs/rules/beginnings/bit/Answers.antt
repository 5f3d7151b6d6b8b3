use Rattle.std.proofs.Common.{◌+◌, min, arith}
use Rattle.lic_kind.proofs.BeginningLemmas.{bit_alone}
use Rattle.lic_kind.proofs.rules.beginnings.bit.Goals as goal

pub returns : goal.returns
returns c = bit_alone (min (c.args.from + c.args.i) 63) (c.args.from + c.min.result) (omega arith) (omega arith)
