use Rattle.std.proofs.Common.{◌≡◌, true, ap, ap₂, ◌∙◌, arith}
use Rattle.std.specs.Prelude.{nat_lt}
use Rattle.lic_lines.specs.Tokens.{Token}
use Rattle.lic_rewriting.proofs.SectionTokens.{blank_before, blank_later, count, token_is}
use Rattle.lic_rewriting.proofs.section.Section.after_blank.Goals as goal

pub returns-then-i-eq0 : goal.returns-then-i-eq0
returns-then-i-eq0 c = λ d.
    let s = c.self.inside in
    ap (blank_before true s.at s.starts.now s.ends.now) (let zero : 0 ≡ c.args.i = omega (arith, c.if-i-eq0.true) in zero)
    ∙ ap (λ (t : Token). t.after_blank)
    (token_is s.at s.letters.now s.starts.now s.ends.now c.args.self.now c.self.invariant.are.paired c.self.view_is c.args.i d c.requires)

pub offset-before-requires : goal.offset-before-requires
offset-before-requires c =
    let s = c.self.inside in
    omega (
      arith,
      c.requires,
      count s.at s.letters.now s.starts.now s.ends.now c.args.self.now c.self.invariant.are.paired c.self.view_is,
      c.self.invariant.are.paired,
    )

pub offset-requires : goal.offset-requires
offset-requires c =
    let s = c.self.inside in
    omega (arith, c.requires, count s.at s.letters.now s.starts.now s.ends.now c.args.self.now c.self.invariant.are.paired c.self.view_is)

pub returns : goal.returns
returns c = λ d.
    let s = c.self.inside in
    ap₂ nat_lt c.offset-before.ensures c.offset.ensures
    ∙ blank_later true s.at s.starts.now s.ends.now c.args.i (omega (arith, c.if-i-eq0.false))
    ∙ ap (λ (t : Token). t.after_blank)
    (token_is s.at s.letters.now s.starts.now s.ends.now c.args.self.now c.self.invariant.are.paired c.self.view_is c.args.i d c.requires)
