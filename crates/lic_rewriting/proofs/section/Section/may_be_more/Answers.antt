use Rattle.std.proofs.Common.{get_or}
use Rattle.lic_rewriting.proofs.SectionTokens.{no_token, none_but_parenthesis, other_token}
use Rattle.lic_rewriting.proofs.section.Section.may_be_more.Goals as goal

pub returns-else-letters-eq39-clause-no_sign : goal.returns-else-letters-eq39-clause-no_sign
returns-else-letters-eq39-clause-no_sign c = λ _.
    let tokens = c.args.self.now in
    let i = c.args.i in
    none_but_parenthesis tokens i no_token c.requires.within
    (other_token 0x28 c.args.letters.now (get_or tokens i no_token) (c.requires.text no_token) c.if-letters-eq40.false)
