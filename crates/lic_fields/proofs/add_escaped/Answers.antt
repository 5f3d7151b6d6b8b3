use Rattle.std.proofs.Common.{rules}
use Rattle.lic_fields.proofs.PlainBytes.{plain-stay}
use Rattle.lic_fields.proofs.add_escaped.Goals as goal

pub returns : goal.returns
returns c = search (rules, plain-stay c.args.bytes.now (c.has_escaped.ensures c.if-has_escaped.false))
