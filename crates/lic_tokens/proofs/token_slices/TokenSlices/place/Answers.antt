use Rattle.std.proofs.Common.{◌-◌, ◌<◌, length, ◌∙◌, arith, rules}
use Rattle.lic_tokens.proofs.SliceLemmas.{slice_count, slice_end, slice_inside, slice_start}
use Rattle.lic_tokens.proofs.token_slices.TokenSlices.place.Goals as goal
use Rattle.lic_tokens.proofs.token_slices.TokenSlices.place.Goals.{Start}

-- there is one
inside : (c : Start) → c.args.i < length c.args.self.now.ends.now
inside c =
    let t = c.args.self.now in
    omega (arith, c.requires.within, t.paired, slice_count t.spelling.now t.ends.now t.sources.now t.paired)

pub bounds-self-i : goal.bounds-self-i
bounds-self-i c = omega (arith, inside (goal.at.bounds-self-i c).Start)

pub offset_bounds-self-i : goal.offset_bounds-self-i
offset_bounds-self-i c =
    let before : c.args.i - 1 < length c.args.self.now.ends.now = omega (arith, inside (goal.at.offset_bounds-self-i c).Start) in
    search rules

pub bounds-self-i-2 : goal.bounds-self-i-2
bounds-self-i-2 c = inside (goal.at.bounds-self-i-2 c).Start

pub offset_bounds-self-i-2 : goal.offset_bounds-self-i-2
offset_bounds-self-i-2 c =
    let within : c.args.i < length c.args.self.now.ends.now = inside (goal.at.offset_bounds-self-i-2 c).Start in
    search rules

pub start_after-requires : goal.start_after-requires
start_after-requires c =
    let t = c.args.self.now in
    slice_inside t.spelling.now t.ends.now t.sources.now t.paired t.kept c.args.i c.requires.within (c.args.i - 1) (omega (arith, c.requires.later)) 0

pub returns-clause-start : goal.returns-clause-start
returns-clause-start c =
    let t = c.args.self.now in
    c.start_after.ensures
    ∙ slice_start t.spelling.now t.ends.now t.sources.now t.paired t.kept c.args.i c.requires.within (c.args.i - 1) (omega (arith, c.requires.later)) 0

pub returns-clause-end : goal.returns-clause-end
returns-clause-end c =
    let t = c.args.self.now in
    slice_end t.spelling.now t.ends.now t.sources.now t.paired t.kept c.args.i c.requires.within 0
