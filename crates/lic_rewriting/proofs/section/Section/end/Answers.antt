use Rattle.std.proofs.Common.{ap, ◌∙◌, arith}
use Rattle.lic_lines.specs.Tokens.{Token}
use Rattle.lic_rewriting.proofs.SectionTokens.{count, token_is}
use Rattle.lic_rewriting.proofs.section.Section.end.Goals as goal

pub offset-requires : goal.offset-requires
offset-requires c =
    let s = c.self.inside in
    omega (
      arith,
      c.requires,
      count s.at s.letters.now s.starts.now s.ends.now c.args.self.now c.self.invariant.are.paired c.self.view_is,
      c.self.invariant.are.paired,
    )

pub returns : goal.returns
returns c = λ d.
    let s = c.self.inside in
    c.offset.ensures
    ∙ ap (λ (t : Token). t.end)
    (token_is s.at s.letters.now s.starts.now s.ends.now c.args.self.now c.self.invariant.are.paired c.self.view_is c.args.i d c.requires)
