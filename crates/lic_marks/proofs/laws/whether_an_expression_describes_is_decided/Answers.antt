use Rattle.lic_marks.proofs.Deciding.{is_described_sound, is_described_complete}
use Rattle.lic_marks.proofs.laws.whether_an_expression_describes_is_decided.Goals as goal

pub returns : goal.returns
returns c = λ e ts. (is_described_sound e ts, is_described_complete e ts)
