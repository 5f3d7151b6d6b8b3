use Rattle.std.proofs.Common.{◌+◌, ◌*◌, ◌&&◌, ap, sym, ◌∙◌}
use Rattle.lic_columns.specs.Masks.{flag_before}
use Rattle.lic_letters.proofs.BitLemmas.{has_bit_and}
use Rattle.lic_columns.proofs.FlagLemmas.{before_is}
use Rattle.lic_columns.proofs.MarkLemmas.{middle_at}
use Rattle.lic_columns.proofs.marks.middles_of.Goals as goal
use Rattle.lic_trim.specs.PieceLengths.{has_bit}

pub returns : goal.returns
returns c = λ flags k ends is. record {
  bit = λ i small.
      has_bit_and c.moved_up.result c.args.same i
      ∙ ap (λ t. t && has_bit c.args.same i)
      (before_is flags c.args.before c.args.same c.moved_up.result k ends.last is.bit c.moved_up.ensures.first c.moved_up.ensures.rest i small)
      ∙ ap (λ t. flag_before flags (k * 64 + i) && t) (is.bit i small) ∙ sym (middle_at flags (k * 64 + i));
}
