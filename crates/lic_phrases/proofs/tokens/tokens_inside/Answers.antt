use Rattle.std.proofs.Common.{◌++◌, ap, ◌∙◌}
use Rattle.std.specs.Str.{chars}
use Rattle.lic_kind.specs.LineRules.{rules_of}
use Rattle.lic_lines.specs.Tokens.{line_tokens, tokens_in, tokens_of_cells}
use Rattle.lic_trim.specs.Sources.{unplaced, without_dropped}
use Rattle.lic_phrases.proofs.PhraseTokens.{inside, line_cells-inside}
use Rattle.lic_phrases.proofs.tokens.tokens_inside.Goals as goal

pub returns : goal.returns
returns c =
    let rules = rules_of c.args.rules.now in
    c.in_ok-push_tokens_of_line.ensures
    ∙ ap (λ l. tokens_in l ++ line_tokens rules inside c.deref.result.now) c.new-tokens.ensures.items
    ∙ ap (line_tokens rules inside) (c.deref.ensures.value ∙ c.in_ok-characters.ensures)
    ∙ ap (tokens_of_cells rules) (line_cells-inside rules (without_dropped (unplaced (chars c.args.text.now))))
