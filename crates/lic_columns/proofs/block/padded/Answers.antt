use Rattle.std.proofs.Common.{◌++◌, length, replicate, drop, ap, ◌∙◌}
use Rattle.std.proofs.lemmas.List.{drop-replicate}
use Rattle.lic_columns.proofs.block.padded.Goals as goal

pub returns : goal.returns
returns c =
    ap (λ l. l ++ drop (length c.args.bytes.now) (replicate 64 32)) c.copy_from_slice.ensures.after
    ∙ ap (λ l. c.args.bytes.now ++ l) (drop-replicate (length c.args.bytes.now) 64 32)
