use Rattle.std.proofs.Common.{◌∙◌}
use Rattle.lic_norm.proofs.FrontChars.{all_read}
use Rattle.lic_norm.proofs.reader.characters.push_bytes.Goals as goal

pub returns : goal.returns
returns c = all_read c.loop-offset.characters.items c.args.at c.loop-offset.offset c.args.bytes.now c.loop-offset-test.false ∙ c.loop-offset.invariant.added
