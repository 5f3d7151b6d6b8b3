use Rattle.std.proofs.Common.{◌++◌, ◌∙◌, ap, subst, refl}
use Rattle.lic_kind.specs.LineRules.{rules_of}
use Rattle.lic_trim.specs.Lines.{whole_line}
use Rattle.lic_trim.specs.Sources.{without_dropped}
use Rattle.lic_lines.specs.Tokens.{line_tokens}
use Rattle.lic_rewriting.specs.Taking.{HasTaken}
use Rattle.lic_norm.specs.Sources.{source_of}
use Rattle.lic_norm.proofs.ReadingLemmas.{line_tokens_of-is}
use Rattle.lic_norm.proofs.reader.line_tokens.take_any_line.Goals as goal

pub returns-clause-taken : goal.returns-clause-taken
returns-clause-taken c = λ taken has.
    let rules = rules_of c.args.rules.now in
    let characters = without_dropped (source_of c.args.at c.args.line.now) in
    subst (λ ts. HasTaken c.take_characters.new.self (taken ++ ts))
    (line_tokens_of-is rules c.args.at c.args.line.now characters _
    (c.in_ok-left.ensures ∙ ap (line_tokens rules whole_line) (c.deref.ensures.value ∙ c.in_ok-read_characters.ensures)) refl)
    (c.in_ok-take_characters.ensures.taken taken has)

pub returns-then-len-gt-MAX_KEPT-clause-taken : goal.returns-then-len-gt-MAX_KEPT-clause-taken
returns-then-len-gt-MAX_KEPT-clause-taken c = λ taken has.
    let rules = rules_of c.args.rules.now in
    let characters = without_dropped (source_of c.args.at c.args.line.now) in
    subst (λ ts. HasTaken c.take_long_line.new.rewriting (taken ++ ts))
    (line_tokens_of-is rules c.args.at c.args.line.now characters _
    (ap (line_tokens rules whole_line) c.in_ok-read_characters.ensures) refl)
    (c.in_ok-take_long_line.ensures.taken taken has)
