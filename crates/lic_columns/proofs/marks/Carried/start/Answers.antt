use Rattle.lic_letters.proofs.BitLemmas.{has_bit_zero}
use Rattle.lic_columns.proofs.marks.Carried.start.Goals as goal

pub returns : goal.returns
returns c = λ separators bytes letters marks. record {
  same = record { last = has_bit_zero 63 };
  alike = record { last = has_bit_zero 63 };
  middle = record { last = has_bit_zero 63 };
  close = has_bit_zero 63;
}
