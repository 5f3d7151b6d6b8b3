use Rattle.std.proofs.Common.{bit_and}
use Rattle.std.proofs.lemmas.Simd.{zip2_of_maps}
use Rattle.lic_columns.specs.Classes.{class_by_low, class_by_high}
use Rattle.lic_columns.proofs.block.classes.Goals as goal

pub returns : goal.returns
returns c = zip2_of_maps bit_and class_by_low class_by_high c.args.bytes c.classes_by_low.ensures c.classes_by_high.ensures
