use Rattle.std.proofs.Common.{◌+◌, sym, ◌∙◌, subst, arith}
use Rattle.lic_kind.specs.LineRules.{rules_of}
use Rattle.lic_trim.specs.Walks.{walked, is_walked_piece}
use Rattle.lic_trim.proofs.LongSeparators.{leapt, all_here}
use Rattle.lic_trim.proofs.EndsAhead.{AreEndsFrom, from_here, after_spaces, one_space, none_later, next_here, at_end}
use Rattle.lic_trim.proofs.Walking.{length-walked}
use Rattle.lic_trim.proofs.ascii_sequences.sequence_by_indices.Goals as goal

pub loop-at-init : goal.loop-at-init
loop-at-init c = record {
  from = after_spaces (rules_of c.args.rules.now) c.args.side (walked c.args.side c.args.line.now) c.args.spaces c.requires
      (c.begins_in_no_space.ensures c.if-not-begins_in_no_space.false);
  inside = omega (arith, c.requires.within, length-walked c.args.side c.args.line.now);
}

pub loop-at-preserved-then-is_space_at : goal.loop-at-preserved-then-is_space_at
loop-at-preserved-then-is_space_at c =
    let rules = rules_of c.args.rules.now in
    let side = c.args.side in
    let way = walked side c.args.line.now in
    let ends = AreEndsFrom (is_walked_piece rules side) way in
    let one = c.if-ends-eq1.true in
    record {
      from = subst (ends (c.loop-at.at + 1)) (sym one)
          (one_space rules side way c.loop-at.at (subst (ends c.loop-at.at) one c.loop-at.invariant.from)
          (omega (arith, length-walked side c.args.line.now)) (sym c.is_space_at.ensures ∙ c.if-is_space_at.true)
          (c.begins_in_no_space.ensures c.if-not-begins_in_no_space.false));
      inside = omega arith;
    }

pub returns-then-next-eq0 : goal.returns-then-next-eq0
returns-then-next-eq0 c =
    none_later (is_walked_piece (rules_of c.args.rules.now) c.args.side) (walked c.args.side c.args.line.now) c.loop-at.at c.loop-at.ends
    c.loop-at.invariant.from (omega (arith, length-walked c.args.side c.args.line.now)) c.in-Some.next c.in-Some.ensures c.if-next-eq0.true

pub overflow_add-at-in-Some : goal.overflow_add-at-in-Some
overflow_add-at-in-Some c =
    let found = c.first_end-step.ensures in
    let from = next_here (is_walked_piece (rules_of c.args.rules.now) c.args.side) (walked c.args.side c.args.line.now) c.loop-at.at c.loop-at.ends
    c.loop-at.invariant.from (omega (arith, length-walked c.args.side c.args.line.now)) c.in-Some.next c.in-Some.ensures
    c.first_end-step.result.0 c.first_end-step.result.1 found.here found.rest found.none in
    omega (arith, from.are.within, length-walked c.args.side c.args.line.now)

pub overflow_add-at-in-Some-2 : goal.overflow_add-at-in-Some-2
overflow_add-at-in-Some-2 c =
    let found = c.first_end-step.ensures in
    let from = next_here (is_walked_piece (rules_of c.args.rules.now) c.args.side) (walked c.args.side c.args.line.now) c.loop-at.at c.loop-at.ends
    c.loop-at.invariant.from (omega (arith, length-walked c.args.side c.args.line.now)) c.in-Some.next c.in-Some.ensures
    c.first_end-step.result.0 c.first_end-step.result.1 found.here found.rest found.none in
    omega (arith, from.are.within, length-walked c.args.side c.args.line.now)

pub loop-at-preserved-in-Some : goal.loop-at-preserved-in-Some
loop-at-preserved-in-Some c =
    let found = c.first_end-step.ensures in
    let from = next_here (is_walked_piece (rules_of c.args.rules.now) c.args.side) (walked c.args.side c.args.line.now) c.loop-at.at c.loop-at.ends
    c.loop-at.invariant.from (omega (arith, length-walked c.args.side c.args.line.now)) c.in-Some.next c.in-Some.ensures
    c.first_end-step.result.0 c.first_end-step.result.1 found.here found.rest found.none in
    record { from = from; inside = omega (arith, from.are.within, length-walked c.args.side c.args.line.now) }

pub loop-at-preserved : goal.loop-at-preserved
loop-at-preserved c =
    let rules = rules_of c.args.rules.now in
    let side = c.args.side in
    let way = walked side c.args.line.now in
    let p = is_walked_piece rules side in
    let at = c.loop-at.at in
    let far = c.in_ok-far.far in
    let all = c.in_ok-far.all in
    let new = leapt rules side way at far all c.in_ok-far.ensures.leap at
    (subst (AreEndsFrom p way at) c.in_ok-far.ensures.one c.loop-at.invariant.from).are in
    record {
      from = from_here p way far all far new (all_here rules side way at far all c.in_ok-far.ensures.leap);
      inside = omega (arith, new.within, length-walked side c.args.line.now);
    }

pub returns : goal.returns
returns c =
    let many = length-walked c.args.side c.args.line.now in
    at_end (is_walked_piece (rules_of c.args.rules.now) c.args.side) (walked c.args.side c.args.line.now) c.loop-at.at c.loop-at.ends
    c.loop-at.invariant.from (omega (arith, many, c.loop-at.invariant.inside, c.loop-at-test.false))
