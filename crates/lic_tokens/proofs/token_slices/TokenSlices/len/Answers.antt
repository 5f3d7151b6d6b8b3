use Rattle.std.proofs.Common.{sym, ◌∙◌}
use Rattle.lic_tokens.proofs.SliceLemmas.{slice_count}
use Rattle.lic_tokens.proofs.token_slices.TokenSlices.len.Goals as goal

pub returns : goal.returns
returns c = let t = c.args.self.now in t.paired ∙ sym (slice_count t.spelling.now t.ends.now t.sources.now t.paired)
