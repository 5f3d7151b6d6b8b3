use Rattle.std.proofs.Common.{◌+◌, refl, arith}
use Rattle.lic_norm.proofs.ReaderFronts.{read_front}
use Rattle.lic_norm.proofs.reader.Reader.take_front.Goals as goal

pub returns-clause-read : goal.returns-clause-read
returns-clause-read c =
    read_front c.args.self.now _ c.deref.result.now (c.args.self.now.line_start + c.min.result) c.in_ok-count.count c.requires.read c.deref.ensures.value (omega arith)
    c.in_ok-count.ensures.within refl refl refl c.in_ok-count.ensures.lines c.in_ok-count.ensures.taken
