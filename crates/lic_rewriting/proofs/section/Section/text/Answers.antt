use Rattle.std.proofs.Common.{◌∙◌}
use Rattle.lic_rewriting.proofs.section.Section.text.Goals as goal

pub token_text-requires-clause-some : goal.token_text-requires-clause-some
token_text-requires-clause-some c = c.letters_of.ensures.some

pub token_text-requires-clause-utf8 : goal.token_text-requires-clause-utf8
token_text-requires-clause-utf8 c = c.letters_of.ensures.utf8

pub returns-clause-text : goal.returns-clause-text
returns-clause-text c = λ d. c.token_text.ensures.text ∙ c.letters_of.ensures.text d
