use Rattle.std.proofs.Common.{◌∙◌, sym}
use Rattle.lic_kind.proofs.PlainWords.{far_words}
use Rattle.lic_kind.proofs.other_kind.Goals as goal

pub returns-then-is_far_word : goal.returns-then-is_far_word
returns-then-is_far_word c = sym (far_words c.args.c (sym c.is_far_word.ensures ∙ c.if-is_far_word.true))
