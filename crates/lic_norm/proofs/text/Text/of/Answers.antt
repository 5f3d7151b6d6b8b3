use Rattle.std.proofs.Common.{ap, sym, ◌∙◌}
use Rattle.lic_kind.specs.LineRules.{rules_of}
use Rattle.lic_norm.specs.Tokens.{tokens_of}
use Rattle.lic_norm.proofs.TextLemmas.{read-AreSpans, read-AreTokenTexts}
use Rattle.lic_norm.proofs.text.Text.of.Goals as goal

pub invariant_of-result : goal.invariant_of-result
invariant_of-result c =
    let input = c.args.reader.source.items in
    let rules = rules_of c.args.reader.rules.now in
    let are = c.in_ok-source.ensures.tokens ∙ ap (λ words. tokens_of rules words input) c.requires.words in (
      read-AreSpans rules c.args.words.now c.in_ok-source.source.items input c.in_ok-source.tokens (sym c.in_ok-source.ensures.source) are,
      read-AreTokenTexts rules c.args.words.now input c.in_ok-source.tokens c.spellings_are_token_texts.ensures are,
    )

pub returns-clause-spans : goal.returns-clause-spans
returns-clause-spans c =
    let input = c.args.reader.source.items in
    let rules = rules_of c.args.reader.rules.now in
    read-AreSpans rules c.args.words.now c.in_ok-source.source.items input c.in_ok-source.tokens (sym c.in_ok-source.ensures.source)
    (c.in_ok-source.ensures.tokens ∙ ap (λ words. tokens_of rules words input) c.requires.words)

pub returns-clause-words : goal.returns-clause-words
returns-clause-words c =
    let input = c.args.reader.source.items in
    let rules = rules_of c.args.reader.rules.now in
    read-AreTokenTexts rules c.args.words.now input c.in_ok-source.tokens c.spellings_are_token_texts.ensures
    (c.in_ok-source.ensures.tokens ∙ ap (λ words. tokens_of rules words input) c.requires.words)
