use Rattle.std.proofs.Common.{arith}
use Rattle.lic_fields.proofs.PlainBytes.{plain_one}
use Rattle.lic_fields.proofs.next_escaped.Goals as goal

pub loop-at-preserved : goal.loop-at-preserved
loop-at-preserved c = record {
  after = omega (arith, c.loop-at.invariant.after);
  within = omega (arith, c.loop-at-test.true);
  plain =
      plain_one c.args.bytes.now c.args.from c.loop-at.at c.loop-at.invariant.after c.loop-at-test.true c.loop-at.invariant.plain
      (c.is_plain.ensures.plain c.if-is_plain.true);
}
