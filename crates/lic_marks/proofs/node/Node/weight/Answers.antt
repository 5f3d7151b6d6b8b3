use Rattle.std.proofs.Common.{arith}
use Rattle.lic_marks.proofs.Nodes.{weight-Letters, weight-Copies, weight-UpTo, weight-Cat, weight-Alt, weight-Repeat, weight-Plus, weight-Tidy}
use Rattle.lic_marks.proofs.node.Node.weight.Goals as goal

pub returns-in-Letters : goal.returns-in-Letters
returns-in-Letters c = rw (c.in-Letters.is, c.len.ensures) (omega (arith, weight-Letters c.in-Letters.text, c.in-Letters.text.ok))

pub returns-in-Cat : goal.returns-in-Cat
returns-in-Cat c = rw c.in-Cat.is (weight-Cat _ _ (rw c.in-Cat.is at c.requires))

pub returns-in-Alt : goal.returns-in-Alt
returns-in-Alt c = rw c.in-Alt.is (weight-Alt _ _ (rw c.in-Alt.is at c.requires))

pub returns-in-Repeat : goal.returns-in-Repeat
returns-in-Repeat c = rw c.in-Repeat.is (weight-Repeat _ _ _ (rw c.in-Repeat.is at c.requires))

pub returns-in-Plus : goal.returns-in-Plus
returns-in-Plus c = rw c.in-Plus.is (weight-Plus _ _ (rw c.in-Plus.is at c.requires))

pub returns-in-Tidy : goal.returns-in-Tidy
returns-in-Tidy c = rw c.in-Tidy.is (weight-Tidy _ _ _ (rw c.in-Tidy.is at c.requires))

pub returns-in-Copies : goal.returns-in-Copies
returns-in-Copies c = rw c.in-Copies.is (weight-Copies _ _)

pub returns-in-UpTo : goal.returns-in-UpTo
returns-in-UpTo c = rw c.in-UpTo.is (weight-UpTo _ _)
