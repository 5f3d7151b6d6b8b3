use Rattle.std.proofs.Common.{◌∙◌, sym}
use Rattle.lic_rewriting.proofs.SectionTokens.{no_sign_if_plain, no_token, plain_letters}
use Rattle.lic_rewriting.proofs.rewriting.batch.is_plain_by_tables.Goals as goal

pub returns-then-leaves_plain-clause-whole : goal.returns-then-leaves_plain-clause-whole
returns-then-leaves_plain-clause-whole c = λ _. plain_letters c.args.letters.now (c.leaves_plain.ensures.plain c.if-leaves_plain.true)

pub returns-then-leaves_plain-clause-no_sign : goal.returns-then-leaves_plain-clause-no_sign
returns-then-leaves_plain-clause-no_sign c = λ _.
    let letters = c.args.letters.now in
    let plain = c.leaves_plain.ensures.plain c.if-leaves_plain.true in
    no_sign_if_plain c.args.section.now c.args.i no_token letters c.requires.within plain
    (sym (plain_letters letters plain) ∙ c.requires.text no_token)
