use Rattle.std.proofs.Common.{rules}
use Rattle.lic_report.proofs.valued_lines.add_values.Goals as goal

pub add_value-requires : goal.add_value-requires
add_value-requires c = λ s e. c.requires c.loop-value.value-index _ (search rules) s e
