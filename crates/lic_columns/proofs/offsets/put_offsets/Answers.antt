use Rattle.std.proofs.Common.{◌≡◌, ℕ, ◌+◌, ◌%◌, ◌≤◌, refl, subst, arith}
use Rattle.lic_columns.proofs.OffsetLists.{IsWritten, none_written, one_written, four_inside, all_inside, all_written}
use Rattle.lic_columns.proofs.offsets.put_offsets.Goals as goal

pub loop-rest-init : goal.loop-rest-init
loop-rest-init c = (λ some. omega arith, refl, refl, none_written c.args.at c.args.mask c.args.n c.args.out.now c.ranges.mask.fits)

pub loop-rest-preserved : goal.loop-rest-preserved
loop-rest-preserved c =
    let at : ℕ = c.args.at in
    let mask : ℕ = c.args.mask in
    let n : ℕ = c.args.n in
    let i : ℕ = c.loop-rest.i in
    let old = c.args.out.now in
    let is = c.loop-rest.invariant in
    let four : i + 4 ≤ 64 = is.0 (omega (arith, c.loop-rest-test.true)) in
    let first = c.put_lowest-rest in
    let second = c.put_lowest-rest-in-loop-rest in
    let third = c.put_lowest-rest-in-loop-rest-2 in
    let last = c.put_lowest-rest-in-loop-rest-3 in
    let bounded = c.requires.inside in
    let one = one_written at mask n i c.loop-rest.rest (n + i) first.result old c.loop-rest.out first.new.out is.3 c.requires.fits refl
    (omega (arith, bounded, four, is.2)) first.ensures.out first.ensures.mask in
    let two = one_written at mask n (i + 1) first.result (n + i + 1) second.result old first.new.out second.new.out one c.requires.fits (omega arith)
    (omega (arith, bounded, four, one.put.size)) second.ensures.out second.ensures.mask in
    let three = one_written at mask n (i + 1 + 1) second.result (n + i + 2) third.result old second.new.out third.new.out two c.requires.fits (omega arith)
    (omega (arith, bounded, four, two.put.size)) third.ensures.out third.ensures.mask in
    let all = one_written at mask n (i + 1 + 1 + 1) third.result (n + i + 3) last.result old third.new.out last.new.out three c.requires.fits (omega arith)
    (omega (arith, bounded, four, three.put.size)) last.ensures.out last.ensures.mask in
    let next : i + 1 + 1 + 1 + 1 ≡ i + 4 = omega arith in
    let written : IsWritten at mask n (i + 4) last.result old last.new.out = subst (λ (m : ℕ). IsWritten at mask n m last.result old last.new.out) next all in
    let fours : (i + 4) % 4 ≡ 0 = omega (arith, is.1) in
    (λ some. four_inside at mask n (i + 4) last.result old last.new.out written fours some, fours, written.put.size, written)

pub returns : goal.returns
returns c =
    let old = c.args.out.now in
    let is = c.loop-rest.invariant.3 in
    let none : c.loop-rest.rest ≡ 0 = omega (arith, c.loop-rest-test.false) in
    record {
      long = is.put.size;
      within = all_inside c.args.at c.args.mask c.args.n c.loop-rest.i c.loop-rest.rest old c.loop-rest.out is none c.ranges.mask.fits c.requires.inside;
      offsets = all_written c.args.at c.args.mask c.args.n c.loop-rest.i c.loop-rest.rest old c.loop-rest.out is none c.ranges.mask.fits c.requires.inside;
    }
