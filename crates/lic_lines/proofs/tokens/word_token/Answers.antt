use Rattle.std.proofs.Common.{◌∙◌}
use Rattle.lic_lines.proofs.TokenLemmas.{word_is_token}
use Rattle.lic_lines.proofs.tokens.word_token.Goals as goal

pub returns : goal.returns
returns c = word_is_token c.args.after_blank c.args.word.now _ _ c.requires.some (c.in_ok-from_str.ensures ∙ c.requires.letters)
