-- The texts of the rewritten tokens.
use Rattle.std.proofs.Common.{◌≡◌, ◌∙◌, map, ap, subst}
use Rattle.std.specs.Prelude.{IfOk}
use Rattle.std.specs.Str.{chars}
use Rattle.lic_kind.specs.LineRules.{profile}
use Rattle.lic_lines.specs.Cells.{cell_of}
use Rattle.lic_trim.specs.Sources.{unplaced, without_dropped}
use Rattle.lic_lines.specs.Tokens.{tokens_of_cells}
use Rattle.lic_phrases.specs.Keys.{texts_in}
use Rattle.lic_phrases.specs.Rewriting.{SpannedText, rewritten}
use Rattle.lic_phrases.specs.Waiting.{spanned_in}
use Rattle.lic_phrases.proofs.PhraseTokens.{texts_of-settled}
use Rattle.lic_phrases.proofs.tokens.rewritten_texts.Goals as goal

pub returns : goal.returns
returns c =
    let first = tokens_of_cells profile (map cell_of (without_dropped (unplaced (chars c.args.phrase.now)))) in
    let p = c.args.phrases.now in
    let same : map (λ t. (spanned_in p.spellings t).text) c.deref.result.now ≡ map (λ (t : SpannedText). t.text) (rewritten p.phrases first) =
    ap (map (λ t. (spanned_in p.spellings t).text)) c.deref.ensures.value
    ∙ texts_of-settled p.spellings c.in_ok-settled.settled.items
    ∙ ap (map (λ (t : SpannedText). t.text)) (c.in_ok-settled.ensures.rewritten ∙ ap (rewritten p.phrases) c.in_ok-tokens.ensures) in
    subst (λ l. IfOk c.texts_of.result (λ texts. texts_in texts.items ≡ l)) same c.texts_of.ensures
