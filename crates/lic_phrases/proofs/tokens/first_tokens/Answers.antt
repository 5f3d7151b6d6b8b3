use Rattle.std.proofs.Common.{◌≡◌, map, subst}
use Rattle.std.specs.Prelude.{IfOk}
use Rattle.std.specs.Str.{chars}
use Rattle.lic_lines.specs.Cells.{cell_of}
use Rattle.lic_trim.specs.Sources.{unplaced, without_dropped}
use Rattle.lic_lines.specs.Tokens.{tokens_in, tokens_of_cells}
use Rattle.lic_phrases.proofs.tokens.first_tokens.Goals as goal

pub returns : goal.returns
returns c =
    subst (λ r. IfOk c.tokens_inside.result (λ tokens. tokens_in tokens.items
    ≡ tokens_of_cells r (map cell_of (without_dropped (unplaced (chars c.args.phrase.now)))))) c.profile-rules.ensures c.tokens_inside.ensures
