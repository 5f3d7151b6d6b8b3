use Rattle.std.proofs.Common.{◌∙◌, sym}
use Rattle.lic_kind.proofs.PlainWords.{words_without_case, letters_without_case}
use Rattle.lic_kind.proofs.word_letters.word_letter.Goals as goal

pub returns-then-is_without_case-clause-word : goal.returns-then-is_without_case-clause-word
returns-then-is_without_case-clause-word c = words_without_case c.args.c (sym c.is_without_case.ensures ∙ c.if-is_without_case.true)

pub returns-then-is_without_case-clause-letter : goal.returns-then-is_without_case-clause-letter
returns-then-is_without_case-clause-letter c = letters_without_case c.args.c (sym c.is_without_case.ensures ∙ c.if-is_without_case.true)
