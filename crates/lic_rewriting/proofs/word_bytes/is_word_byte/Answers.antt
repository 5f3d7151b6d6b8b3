use Rattle.lic_rewriting.proofs.WordBytes.{word_bytes}
use Rattle.lic_rewriting.proofs.word_bytes.is_word_byte.Goals as goal

pub returns : goal.returns
returns c = word_bytes c.args.byte c.ranges.byte.fits
