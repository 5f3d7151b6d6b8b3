-- Each number adds the places from which letters lead to its place.
use Rattle.std.proofs.Common.{◌-◌, ◌≤◌, [], sym, arith, append-nil}
use Rattle.lic_reverse.proofs.CountNumbers.{adds-all, adds-more, adds-nothing, adds-widest}
use Rattle.lic_reverse.proofs.letters.counts.add_counted.Goals as goal

pub loop-number-init : goal.loop-number-init
loop-number-init c =
    let ordered : c.args.span.low ≤ c.args.span.high = c.requires.ordered 0 c.args.span (omega arith) in
    record {
      low = omega (arith, c.end_of-number.ensures);
      adds = adds-nothing c.args.keep c.args.view.now c.args.span _ c.args.found.now.items (omega (arith, c.end_of-number.ensures));
    }

pub loop-number-preserved : goal.loop-number-preserved
loop-number-preserved c =
    let n = c.loop-number.number - 1 in
    let old = c.args.found.now.items in
    let new = c.loop-number.found.items in
    let inv = c.loop-number.invariant in
    record {
      low = omega arith;
      adds = adds-more c.args.keep c.args.view.now c.args.span c.loop-number.number n old new new [] (omega arith)
          (omega (arith, c.end_of-number.ensures, c.loop-number.auto)) inv.adds
          (c.in_default.ensures.none c.args.keep) (sym (append-nil new));
    }

pub returns-in-Some : goal.returns-in-Some
returns-in-Some c =
    let n = c.loop-number.number - 1 in
    let inv = c.loop-number.invariant in
    let (q, place, is) = c.in-Some.ensures.all in
    adds-widest c.args.keep c.args.view.now c.args.span c.in-Some.letters c.loop-number.number n q c.args.found.now.items c.loop-number.found.items
    c.push.new.spans.items (omega arith) (omega arith)
    (omega (arith, c.end_of-number.ensures, c.loop-number.auto)) place is inv.adds (c.in-Some.ensures.some c.args.keep) c.in_ok-push.ensures.items

pub returns : goal.returns
returns c =
    adds-all c.args.keep c.args.view.now c.args.span c.loop-number.number c.args.found.now.items c.loop-number.found.items
    (omega (arith, c.loop-number.invariant.low)) c.loop-number.invariant.adds
