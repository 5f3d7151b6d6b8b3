-- Spans and texts of the tokens of an input that was read.
use Rattle.std.proofs.Common.{◌≡◌, ℕ, List, true, sym, subst, ◌∙◌, ap}
use Rattle.lic_kind.specs.LineRules.{LineRules}
use Rattle.lic_trim.specs.Sources.{without_dropped, lines_of}
use Rattle.lic_lines.specs.Cells.{cells_of}
use Rattle.lic_phrases.specs.Rewriting.{Phrase}
use Rattle.lic_phrases.specs.TokenTexts.{HaveTokenTexts}
use Rattle.lic_tokens.specs.Tokens.{TokenValue, AreTokenTexts, HaveTexts}
use Rattle.lic_rewriting.proofs.TokenTexts.{cells-texts, fit-lines, rewritten-texts}
use Rattle.lic_norm.specs.Sources.{source_of}
use Rattle.lic_norm.specs.Tokens.{first_tokens_of, tokens_of}
use Rattle.lic_norm.specs.Spans.{AreSpans}
use Rattle.lic_norm.proofs.TokenSpans.{tokens_of-AreSpans}

-- the texts of the first tokens
first-texts : (rules : LineRules) (input : List ℕ) → HaveTexts (first_tokens_of rules 0 input)
unfolding first_tokens_of
first-texts rules input =
    cells-texts rules true (cells_of rules (source_of 0 input)) (fit-lines rules (lines_of (without_dropped (source_of 0 input))))

-- the texts of an input's tokens
pub tokens_of-AreTokenTexts : (rules : LineRules) (words : List Phrase) (input : List ℕ) → HaveTokenTexts words → AreTokenTexts (tokens_of rules words input)
tokens_of-AreTokenTexts rules words input known = rewritten-texts words (first_tokens_of rules 0 input) known (first-texts rules input)

pub read-AreSpans : (rules : LineRules) (words : List Phrase) (source bytes : List ℕ) (tokens : List TokenValue)
    → bytes ≡ source → tokens ≡ tokens_of rules words bytes → AreSpans source tokens
read-AreSpans rules words source bytes tokens read are =
    subst (AreSpans source) (sym (are ∙ ap (tokens_of rules words) read)) (tokens_of-AreSpans rules words source)

pub read-AreTokenTexts : (rules : LineRules) (words : List Phrase) (bytes : List ℕ) (tokens : List TokenValue)
    → HaveTokenTexts words → tokens ≡ tokens_of rules words bytes → AreTokenTexts tokens
read-AreTokenTexts rules words bytes tokens known are = subst AreTokenTexts (sym are) (tokens_of-AreTokenTexts rules words bytes known)
