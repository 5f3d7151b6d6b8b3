use Rattle.std.proofs.Common.{◌≡◌, ℕ, suc, ◌+◌, ◌*◌, ◌==◌, get_or, ap, ◌∙◌, arith}
use Rattle.lic_columns.proofs.Lanes.{has_bit-same}
use Rattle.lic_columns.proofs.block.same_offsets.Goals as goal

pub returns : goal.returns
returns c = λ i small inside.
    let bytes = c.args.bytes.now in
    let at : ℕ = c.args.k * 64 in
    let here : get_or c.load.result i 0 ≡ get_or bytes (at + i) 0 = c.load.ensures.bytes i small (omega arith) in
    let next : get_or c.load-2.result i 0 ≡ get_or bytes (at + 1 + i) 0 = c.load-2.ensures.bytes i small (omega arith) in
    let offset : at + 1 + i ≡ at + suc i = omega arith in
    has_bit-same c.load.result c.load-2.result i c.load.ensures.long c.load-2.ensures.long small
    ∙ ap (λ b. b == get_or c.load-2.result i 0) here ∙ ap (λ b. get_or bytes (at + i) 0 == b) next ∙ ap (λ n. get_or bytes (at + i) 0 == get_or bytes n 0) offset
