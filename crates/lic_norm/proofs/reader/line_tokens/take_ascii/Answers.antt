use Rattle.std.proofs.Common.{◌++◌, ap, length, sym, subst, ◌∙◌}
use Rattle.lic_kind.specs.LineRules.{rules_of}
use Rattle.lic_trim.specs.Sources.{placed}
use Rattle.lic_lines.specs.Tokens.{single_signs}
use Rattle.lic_rewriting.specs.Taking.{HasTaken}
use Rattle.lic_tokens.specs.Tokens.{HaveTexts}
use Rattle.lic_norm.proofs.AsciiLines.{first_tokens_of-ascii}
use Rattle.lic_norm.proofs.SectionOffsets.{ascii_offsets}
use Rattle.lic_rewriting.proofs.TokenTexts.{lines-texts}
use Rattle.lic_norm.proofs.reader.line_tokens.take_ascii.Goals as goal

pub of-section-requires : goal.of-section-requires
of-section-requires c =
    let read = c.in_ok-read.ensures in
    ascii_offsets c.args.at c.read.new.self read.ascii read.paired read.from read.some read.to

pub take_section-requires-clause-texts : goal.take_section-requires-clause-texts
take_section-requires-clause-texts c =
    subst HaveTexts (sym (c.of-section.ensures ∙ c.in_ok-read.ensures.tokens))
    (lines-texts (rules_of c.args.rules.now) (placed c.args.at c.args.text.now))

pub take_lines-requires-clause-offsets : goal.take_lines-requires-clause-offsets
take_lines-requires-clause-offsets c =
    let read = c.in_ok-read.ensures in
    ascii_offsets c.args.at c.read.new.self read.ascii read.paired read.from read.some read.to

pub take_lines-requires-clause-texts : goal.take_lines-requires-clause-texts
take_lines-requires-clause-texts c =
    subst HaveTexts (sym c.in_ok-read.ensures.tokens) (lines-texts (rules_of c.args.rules.now) (placed c.args.at c.args.text.now))

pub returns-then-text-le-MAX_KEPT-clause-taken : goal.returns-then-text-le-MAX_KEPT-clause-taken
returns-then-text-le-MAX_KEPT-clause-taken c = λ taken has.
    let rules = rules_of c.args.rules.now in
    subst (λ ts. HasTaken c.take_section.new.self (taken ++ ts))
    (ap single_signs (c.of-section.ensures ∙ c.in_ok-read.ensures.tokens)
    ∙ first_tokens_of-ascii rules c.args.at c.args.text.now c.requires.ascii)
    (c.in_ok-take_section.ensures.taken taken has)

pub returns-then-text-le-MAX_KEPT-clause-count : goal.returns-then-text-le-MAX_KEPT-clause-count
returns-then-text-le-MAX_KEPT-clause-count c = c.len-count.ensures ∙ ap length (c.of-section.ensures ∙ c.in_ok-read.ensures.tokens)

pub returns-clause-taken : goal.returns-clause-taken
returns-clause-taken c = λ taken has.
    let rules = rules_of c.args.rules.now in
    subst (λ ts. HasTaken c.take_lines.new.self (taken ++ ts))
    (ap single_signs c.in_ok-read.ensures.tokens ∙ first_tokens_of-ascii rules c.args.at c.args.text.now c.requires.ascii)
    (c.in_ok-take_lines.ensures.taken taken has)

pub returns-clause-count : goal.returns-clause-count
returns-clause-count c = c.len-count.ensures ∙ ap length (c.of-section.ensures ∙ c.in_ok-read.ensures.tokens)
