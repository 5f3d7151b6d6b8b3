use Rattle.lic_letters.proofs.OwnRuns.{two_run, two_top}
use Rattle.lic_letters.proofs.wide.own.two_front.Goals as goal

pub first_zero-requires : goal.first_zero-requires
first_zero-requires c =
    two_top c.args.bytes.now c.load-first.result c.load.result c.ascii_offsets.result c.two_offsets-begins.result 0 c.requires
    (λ i. (c.type_inv.bytes i).fits) c.load-first.ensures c.load.ensures c.ascii_offsets.ensures.bits c.ascii_offsets.ensures.above
    c.two_offsets-begins.ensures.bits c.two_offsets-begins.ensures.above

pub returns-clause-own : goal.returns-clause-own
returns-clause-own c =
    two_run c.args.bytes.now c.load-first.result c.load.result c.ascii_offsets.result c.two_offsets-begins.result c.first_zero.result c.requires
    (λ i. (c.type_inv.bytes i).fits) c.load-first.ensures c.load.ensures c.ascii_offsets.ensures.bits c.ascii_offsets.ensures.above
    c.two_offsets-begins.ensures.bits c.two_offsets-begins.ensures.above c.first_zero.ensures.within c.first_zero.ensures.zero c.first_zero.ensures.below
