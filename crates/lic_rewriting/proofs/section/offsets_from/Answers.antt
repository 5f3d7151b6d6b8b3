use Rattle.std.proofs.lemmas.List.{take_rest}
use Rattle.lic_rewriting.proofs.section.offsets_from.Goals as goal

pub returns : goal.returns
returns c = take_rest c.args.offsets.now c.args.i
