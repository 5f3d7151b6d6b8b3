use Rattle.lic_rows.proofs.Sets.{zero_iff}
use Rattle.lic_rows.proofs.is_zero.Goals as goal

pub returns : goal.returns
returns c =
    zero_iff c.args.row.now (λ k. (c.type_inv.row k).fits) c.are_zero_from.result
    c.are_zero_from.ensures.zero c.are_zero_from.ensures.some
