use Rattle.std.proofs.Common.{◌≡◌, ◌++◌, [], ap, sym, subst, ◌∙◌, append-nil, take, inl, refl, arith}
use Rattle.std.specs.Str.{chars}
use Rattle.lic_kind.specs.LineRules.{rules_of}
use Rattle.lic_trim.specs.Sources.{placed}
use Rattle.lic_lines.specs.Tokens.{single_signs}
use Rattle.lic_rewriting.specs.Taking.{HasTaken}
use Rattle.lic_tokens.specs.Tokens.{HaveTexts}
use Rattle.lic_norm.specs.Tokens.{first_tokens_of}
use Rattle.lic_norm.proofs.AsciiLines.{first_tokens_of-utf8}
use Rattle.lic_norm.proofs.FirstLines.{first_tokens_of-none}
use Rattle.lic_norm.proofs.SectionOffsets.{simple_offsets}
use Rattle.lic_rewriting.proofs.TokenTexts.{lines-texts}
use Rattle.lic_norm.proofs.reader.line_tokens.take_front.Goals as goal

pub of-section-requires : goal.of-section-requires
of-section-requires c =
    simple_offsets (rules_of c.args.rules.now) c.args.at (take c.in_ok-end.end c.args.bytes.now) c.read_front.new.self
    (c.in_ok-end.ensures.tokens (omega (arith, c.if-end-eq0.false)))

pub take_section-requires-clause-texts : goal.take_section-requires-clause-texts
take_section-requires-clause-texts c =
    let lines = take c.in_ok-end.end c.args.bytes.now in
    let read = c.in_ok-end.ensures.tokens (omega (arith, c.if-end-eq0.false)) in
    subst HaveTexts (sym (c.of-section.ensures ∙ read.tokens)) (lines-texts (rules_of c.args.rules.now) (placed c.args.at (chars lines)))

pub returns-then-end-eq0-clause-lines : goal.returns-then-end-eq0-clause-lines
returns-then-end-eq0-clause-lines c = inl refl

pub returns-then-end-eq0-clause-taken : goal.returns-then-end-eq0-clause-taken
returns-then-end-eq0-clause-taken c = λ taken has.
    let none : taken ++ first_tokens_of (rules_of c.args.rules.now) c.args.at [] ≡ taken =
    ap (λ ts. taken ++ ts) (first_tokens_of-none (rules_of c.args.rules.now) c.args.at) ∙ append-nil taken in
    subst (HasTaken c.args.rewriting.now) (sym none) has

pub returns-clause-lines : goal.returns-clause-lines
returns-clause-lines c = c.in_ok-end.ensures.lines.ended

pub returns-clause-taken : goal.returns-clause-taken
returns-clause-taken c = λ taken has.
    let rules = rules_of c.args.rules.now in
    let lines = take c.in_ok-end.end c.args.bytes.now in
    let read = c.in_ok-end.ensures.tokens (omega (arith, c.if-end-eq0.false)) in
    subst (λ ts. HasTaken c.take_section.new.self (taken ++ ts))
    (ap single_signs (c.of-section.ensures ∙ read.tokens) ∙ first_tokens_of-utf8 rules c.args.at lines c.in_ok-end.ensures.lines.utf8)
    (c.in_ok-take_section.ensures.taken taken has)
