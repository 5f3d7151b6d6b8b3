-- A plain token, by tables or by its text.
use Rattle.std.proofs.Common.{◌∙◌, sym}
use Rattle.lic_rewriting.proofs.SectionTokens.{no_sign_here, no_token}
use Rattle.lic_rewriting.proofs.rewriting.batch.plain_text.Goals as goal

pub is_plain_by_tables-requires-clause-some : goal.is_plain_by_tables-requires-clause-some
is_plain_by_tables-requires-clause-some c = c.letters_of-letters.ensures.some

pub returns-then-is_plain_by_tables-clause-text : goal.returns-then-is_plain_by_tables-clause-text
returns-then-is_plain_by_tables-clause-text c = λ d.
    sym (c.is_plain_by_tables.ensures.whole c.if-is_plain_by_tables.true) ∙ c.letters_of-letters.ensures.text d

pub returns-then-is_plain_by_tables-clause-no_sign : goal.returns-then-is_plain_by_tables-clause-no_sign
returns-then-is_plain_by_tables-clause-no_sign c =
    no_sign_here c.args.section.now c.args.i no_token c.requires (c.is_plain_by_tables.ensures.no_sign c.if-is_plain_by_tables.true)

pub returns-then-is_plain_by_tables-clause-left : goal.returns-then-is_plain_by_tables-clause-left
returns-then-is_plain_by_tables-clause-left c = c.is_plain_by_tables.ensures.left c.if-is_plain_by_tables.true
