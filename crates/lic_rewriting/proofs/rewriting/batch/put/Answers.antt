use Rattle.std.proofs.Common.{◌+◌, ap, arith}
use Rattle.lic_rewriting.proofs.BatchLemmas.{written}
use Rattle.lic_rewriting.proofs.rewriting.batch.put.Goals as goal

pub returns-clause-bytes : goal.returns-clause-bytes
returns-clause-bytes c =
    written c.args.bytes.now c.args.letters.now c.args.offset c.args.len c.args.wide (omega (arith, c.requires.fits)) c.requires.long c.requires.short c.args.blank
    (c.args.offset + c.from.result) _ (ap (λ n. c.args.offset + n) c.from.ensures) c.copy_letters.ensures.copied
