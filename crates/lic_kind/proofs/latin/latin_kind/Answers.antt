use Rattle.lic_kind.proofs.LatinKinds.{latin_kinds}
use Rattle.lic_kind.proofs.latin.latin_kind.Goals as goal

pub returns : goal.returns
returns c = latin_kinds c.args.c c.requires
