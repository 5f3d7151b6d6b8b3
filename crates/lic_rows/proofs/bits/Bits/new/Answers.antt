use Rattle.std.proofs.Common.{◌≡◌, ◌+◌, ◌/◌, replicate, rules}
use Rattle.lic_rows.proofs.Flags.{flags_clear}
use Rattle.lic_rows.proofs.bits.Bits.new.Goals as goal

pub returns : goal.returns
returns c =
    let items : c.in_ok-words.words.items ≡ replicate (c.args.len / 64 + 1) 0 = search rules in
    rw items (flags_clear c.args.len (c.args.len / 64 + 1))
