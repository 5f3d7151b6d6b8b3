use Rattle.std.proofs.Common.{arith}
use Rattle.lic_marks.specs.Nodes.{core_of}
use Rattle.lic_auto.proofs.WordSets.{AreSame-trans}
use Rattle.lic_auto.proofs.Taken.{optional_light}
use Rattle.lic_auto.proofs.compile.optional.Goals as goal

pub returns-then-weight-eq0 : goal.returns-then-weight-eq0
returns-then-weight-eq0 c = record {
  words = AreSame-trans c.empty_word.ensures.words (optional_light (core_of c.args.body) (omega (arith, c.weight.ensures, c.if-weight-eq0.true)));
  measured = c.empty_word.ensures.measured;
}
