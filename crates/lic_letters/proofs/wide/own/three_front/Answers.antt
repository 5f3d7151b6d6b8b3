use Rattle.lic_letters.proofs.OwnRuns.{three_run, three_top}
use Rattle.lic_letters.proofs.wide.own.three_front.Goals as goal

pub first_zero-requires : goal.first_zero-requires
first_zero-requires c =
    three_top c.args.bytes.now c.load-first.result c.load.result c.load-2.result c.ascii_offsets.result c.three_offsets.result c.offsets_on.result
    0 c.requires (λ i. (c.type_inv.bytes i).fits) c.load-first.ensures c.load.ensures c.load-2.ensures
    c.ascii_offsets.ensures.bits c.ascii_offsets.ensures.above c.three_offsets.ensures.bits c.three_offsets.ensures.above c.offsets_on.ensures

pub returns-clause-own : goal.returns-clause-own
returns-clause-own c =
    three_run c.args.bytes.now c.load-first.result c.load.result c.load-2.result c.ascii_offsets.result c.three_offsets.result c.offsets_on.result
    c.first_zero.result c.requires (λ i. (c.type_inv.bytes i).fits) c.load-first.ensures c.load.ensures c.load-2.ensures
    c.ascii_offsets.ensures.bits c.ascii_offsets.ensures.above c.three_offsets.ensures.bits c.three_offsets.ensures.above c.offsets_on.ensures
    c.first_zero.ensures.within c.first_zero.ensures.zero c.first_zero.ensures.below
