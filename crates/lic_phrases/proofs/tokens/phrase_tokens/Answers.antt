-- No phrase rewrites them.
use Rattle.std.proofs.Common.{◌≡◌, ◌∙◌, map, ap, subst}
use Rattle.std.specs.Prelude.{IfOk}
use Rattle.std.specs.Str.{chars}
use Rattle.lic_kind.specs.LineRules.{profile}
use Rattle.lic_lines.specs.Cells.{cell_of}
use Rattle.lic_trim.specs.Sources.{unplaced, without_dropped}
use Rattle.lic_lines.specs.Tokens.{tokens_of_cells}
use Rattle.lic_phrases.specs.Keys.{texts_in}
use Rattle.lic_phrases.specs.PhraseLists.{PhraseList}
use Rattle.lic_phrases.specs.Rewriting.{SpannedText, rewritten}
use Rattle.lic_phrases.proofs.PhraseTokens.{texts_of-rewritten}
use Rattle.lic_phrases.proofs.tokens.phrase_tokens.Goals as goal

pub returns : goal.returns
returns c =
    let first = tokens_of_cells profile (map cell_of (without_dropped (unplaced (chars c.args.phrase.now)))) in
    subst (λ l. IfOk c.rewritten_texts.result (λ texts. texts_in texts.items ≡ l))
    (ap (λ (q : PhraseList). map (λ (t : SpannedText). t.text) (rewritten q.phrases first)) c.new-phrases.ensures ∙ texts_of-rewritten first)
    c.rewritten_texts.ensures
