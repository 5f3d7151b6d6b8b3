use Rattle.std.proofs.Common.{refl, arith}
use Rattle.lic_rewriting.proofs.SectionTokens.{count, rest_are}
use Rattle.lic_rewriting.proofs.section.Section.rest.Goals as goal

pub offsets_from-requires : goal.offsets_from-requires
offsets_from-requires c =
    let s = c.self.inside in
    omega (arith, c.requires, count s.at s.letters.now s.starts.now s.ends.now c.args.self.now c.self.invariant.are.paired c.self.view_is)

pub offsets_from-requires-2 : goal.offsets_from-requires-2
offsets_from-requires-2 c =
    let s = c.self.inside in
    omega (
      arith,
      c.requires,
      count s.at s.letters.now s.starts.now s.ends.now c.args.self.now c.self.invariant.are.paired c.self.view_is,
      c.self.invariant.are.paired,
    )

pub returns : goal.returns
returns c =
    let s = c.self.inside in
    rest_are s.at s.letters.now s.starts.now s.ends.now c.offsets_from.result.now c.offsets_from-2.result.now c.args.self.now _ c.args.i
    c.self.invariant.are.paired c.requires c.self.view_is refl c.offsets_from.ensures c.offsets_from-2.ensures
