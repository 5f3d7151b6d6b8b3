use Rattle.std.proofs.Common.{◌≡◌, arith}
use Rattle.lic_marks.specs.Rows.{weight}
use Rattle.lic_marks.specs.Nodes.{core_of}
use Rattle.lic_marks.proofs.Built.{IsBuilt-Repeat}
use Rattle.lic_marks.proofs.build.repeat.Goals as goal

pub returns-clause-built : goal.returns-clause-built
returns-clause-built c =
    let one : c.weight-one.result ≡ weight (core_of c.args.child.value) = rw c.deref.ensures at c.weight-one.ensures in
    let needed = rw one at c.in_ok-needed.ensures in
    let more = rw one at c.in_ok-more.ensures in
    IsBuilt-Repeat _ _ _ c.requires (omega (arith, c.counts-needed.ensures (core_of c.args.child.value), needed, more, c.in_ok-weight.ensures))
