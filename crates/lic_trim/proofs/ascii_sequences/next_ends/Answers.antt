use Rattle.std.proofs.Common.{◌&&◌, suc, length, take, drop, arith}
use Rattle.std.specs.Prelude.{nat_le}
use Rattle.lic_kind.specs.LineRules.{rules_of}
use Rattle.lic_trim.specs.Walks.{walked, is_walked_piece}
use Rattle.lic_trim.proofs.PieceLengths.{next_with}
use Rattle.lic_trim.proofs.ascii_sequences.next_ends.Goals as goal

pub returns : goal.returns
returns c = λ d.
    let way = drop c.args.at (walked c.args.side c.args.line.now) in
    next_with c.args.ends c.in_ok-lengths.lengths (nat_le (suc d) (length way) && is_walked_piece (rules_of c.args.rules.now) c.args.side (take (suc d) way)) d
    c.requires.here (c.in_ok-lengths.ensures.each (suc d) (omega arith))
