use Rattle.std.proofs.Common.{◌≡◌, ◌+◌, ◌-◌, drop, subst, take, arith}
use Rattle.lic_fields.specs.Fields.{ArePlain}
use Rattle.lic_fields.proofs.PlainBytes.{plain_more}
use Rattle.lic_fields.proofs.plain_blocks.Goals as goal

pub loop-at-preserved : goal.loop-at-preserved
loop-at-preserved c =
    let at = c.loop-at.at in
    let bytes = c.args.bytes.now in
    let long : at + 64 - at ≡ 64 = omega arith in
    record {
      after = omega (arith, c.loop-at.invariant.after);
      within = omega (arith, c.loop-at-test.true, c.loop-at.invariant.within);
      plain =
          plain_more bytes c.args.from at 64 c.loop-at.invariant.after c.loop-at.invariant.plain
          (subst (λ n. ArePlain (take n (drop at bytes))) long (c.has_escaped.ensures c.if-not-has_escaped.true));
    }
