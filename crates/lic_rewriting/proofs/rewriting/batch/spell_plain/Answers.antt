use Rattle.std.proofs.Common.{arith, sym, ap, ◌∙◌, take, length}
use Rattle.lic_rewriting.proofs.SectionTokens.{no_sign_there, no_token}
use Rattle.lic_rewriting.proofs.rewriting.batch.spell_plain.Goals as goal

pub put_token-next-requires-clause-no_sign : goal.put_token-next-requires-clause-no_sign
put_token-next-requires-clause-no_sign c =
    let count = c.loop-count.count in
    no_sign_there c.args.section.now c.rest-tokens.result c.args.i count no_token c.rest-tokens.ensures
    (omega (arith, c.loop-count-test.true, c.requires.within, c.rest-tokens.ensures.count))
    (c.is_plain_by_tables.ensures.no_sign c.if-not-is_plain_by_tables.false)

pub put_token-next-requires-clause-front : goal.put_token-next-requires-clause-front
put_token-next-requires-clause-front c =
    let texts = sym (c.is_plain_by_tables.ensures.whole c.if-not-is_plain_by_tables.false) ∙ c.letters_of-text.ensures.text no_token in
    texts ∙ c.in-Some.ensures.front no_token ∙ ap (λ l. take (length l) c.in-Some.letters.now) (sym texts)
