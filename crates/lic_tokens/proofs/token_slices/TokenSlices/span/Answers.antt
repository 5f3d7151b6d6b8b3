use Rattle.std.proofs.Common.{◌<◌, length, arith, rules}
use Rattle.lic_tokens.proofs.SliceLemmas.{slice_count, slice_span}
use Rattle.lic_tokens.proofs.token_slices.TokenSlices.span.Goals as goal

pub offset_bounds-self-i : goal.offset_bounds-self-i
offset_bounds-self-i c =
    let t = c.args.self.now in
    let within : c.args.i < length t.sources.now =
    omega (arith, c.requires, slice_count t.spelling.now t.ends.now t.sources.now t.paired) in
    search rules

pub bounds-self-i : goal.bounds-self-i
bounds-self-i c =
    let t = c.args.self.now in
    omega (arith, c.requires, slice_count t.spelling.now t.ends.now t.sources.now t.paired)

pub returns : goal.returns
returns c = λ d.
    let t = c.args.self.now in
    slice_span t.spelling.now t.ends.now t.sources.now t.paired c.args.i (record { start = 0; end = 0 }) d c.requires
