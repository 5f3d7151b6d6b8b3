use Rattle.std.proofs.Common.{◌≡◌, ◌==◌, ◌||◌, true, false}
use Rattle.lic_marks.specs.Marks.{is_nullable}
use Rattle.lic_marks.specs.Nodes.{core_of}
use Rattle.lic_auto.proofs.WordSets.{AreSame-trans}
use Rattle.lic_auto.proofs.Weightless.{weightless_repeats, weightless_never}
use Rattle.lic_auto.proofs.compile.weightless_repetition.Goals as goal

pub returns-then-may_be_empty : goal.returns-then-may_be_empty
returns-then-may_be_empty c = λ max some.
    let test : ((c.args.min == 0) || is_nullable (core_of c.args.body)) ≡ true = rw c.has_empty_word.ensures at c.if-may_be_empty.true in record {
      words = AreSame-trans c.empty_word.ensures.words (weightless_repeats (core_of c.args.body) c.requires c.args.min max some test);
      measured = c.empty_word.ensures.measured;
    }

pub returns-else-may_be_empty : goal.returns-else-may_be_empty
returns-else-may_be_empty c = λ max some.
    let test : ((c.args.min == 0) || is_nullable (core_of c.args.body)) ≡ false = rw c.has_empty_word.ensures at c.if-may_be_empty.false in record {
      words = AreSame-trans c.no_word.ensures.words (weightless_never (core_of c.args.body) c.requires c.args.min max some test);
      measured = c.no_word.ensures.measured;
    }
