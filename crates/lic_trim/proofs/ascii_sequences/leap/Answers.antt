use Rattle.std.proofs.Common.{arith}
use Rattle.lic_trim.proofs.ascii_sequences.leap.Goals as goal

pub returns-clause-leap : goal.returns-clause-leap
returns-clause-leap c = record {
  reach = c.reach-reach.result;
  short = record { texts = c.reach-reach.ensures.texts; spaced = c.reach-reach.ensures.spaced; repeated = c.reach-reach.ensures.repeated };
  small = omega arith;
  count = c.in_ok-streak.streak;
  streak = c.in_ok-streak.ensures;
  beyond = omega arith;
  end = omega arith;
  bits = c.below.ensures;
}
