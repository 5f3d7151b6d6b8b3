use Rattle.std.proofs.Common.{◌≡◌, ◌+◌, ap, arith}
use Rattle.std.specs.Prelude.{slice_index}
use Rattle.lic_trim.specs.Walks.{walked}
use Rattle.lic_trim.proofs.ascii_sequences.streak_length.Goals as goal

pub loop-count-init : goal.loop-count-init
loop-count-init c =
    let line = walked c.args.side c.args.line.now in
    record {
      within = omega arith;
      some = omega arith;
      same = λ i lt. let first : c.args.index + i ≡ c.args.index = omega arith in ap (slice_index line) first;
    }
