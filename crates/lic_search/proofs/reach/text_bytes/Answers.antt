-- A text takes its bytes.
use Rattle.lic_search.proofs.ReachBounds.{bytes-text}
use Rattle.lic_search.proofs.reach.text_bytes.Goals as goal

pub returns : goal.returns
returns c = bytes-text c.args.text.now c.utf8.text
