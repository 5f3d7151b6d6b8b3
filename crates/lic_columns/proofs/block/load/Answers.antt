use Rattle.std.proofs.Common.{◌≡◌, ℕ, ◌+◌, ◌-◌, ◌<◌, length, take, drop, get_or, replicate, ap, ◌∙◌, arith}
use Rattle.std.proofs.lemmas.List.{take_rest, get_or-drop, get_or_append_left, length-drop}
use Rattle.std.proofs.lemmas.Simd.{get_or-chunk}
use Rattle.lic_columns.proofs.block.load.Goals as goal
use Rattle.lic_columns.proofs.block.load.Goals.{then-bytes-at-ge-SIZE, else-bytes-at-ge-SIZE}

pub returns-clause-bytes : goal.returns-clause-bytes
returns-clause-bytes c = λ i small inside.
    let bytes = c.args.bytes.now in
    let at : ℕ = c.args.at in
    let rest = take (length bytes - at) (drop at bytes) in
    let whole : rest ≡ drop at bytes = take_rest bytes at in
    let read : get_or rest i 0 ≡ get_or bytes (at + i) 0 = ap (λ l. get_or l i 0) whole ∙ get_or-drop at bytes i 0 in
    let within : i < length rest = omega (arith, ap length whole, length-drop at bytes) in
    elim c.if-bytes-at-ge-SIZE.branch [
      | then-bytes-at-ge-SIZE w ↦ ap (λ l. get_or l i 0) w.result-is ∙ get_or-chunk at 64 bytes i 0 small
      | else-bytes-at-ge-SIZE w ↦ ap (λ l. get_or l i 0) w.result-is ∙ ap (λ l. get_or l i 0) w.padded.ensures
          ∙ get_or_append_left rest (replicate (64 - length rest) 32) 0 i within ∙ read
    ]
