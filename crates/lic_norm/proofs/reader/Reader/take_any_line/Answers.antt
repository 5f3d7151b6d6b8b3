use Rattle.std.proofs.Common.{◌++◌, ap, subst, ◌∙◌, take}
use Rattle.std.specs.List.{slice_range}
use Rattle.lic_kind.specs.LineRules.{rules_of}
use Rattle.lic_rewriting.specs.Taking.{HasTaken}
use Rattle.lic_norm.specs.Tokens.{first_tokens_of, line_tokens_of}
use Rattle.lic_norm.proofs.WholeLines.{one_more_line}
use Rattle.lic_norm.proofs.reader.Reader.take_any_line.Goals as goal

pub returns-clause-taken : goal.returns-clause-taken
returns-clause-taken c =
    let known = c.requires in
    let old = c.args.self.now in
    let source = old.source.items in
    let at = old.line_start in
    let end = c.args.end in
    let rules = rules_of old.rules.now in
    let before = first_tokens_of rules 0 (take at source) in
    subst (HasTaken c.take_any_line.new.rewriting)
    (ap (λ l. before ++ line_tokens_of rules at (slice_range l at end)) c.deref.ensures.value
    ∙ one_more_line rules source at end known.read.lines known.order known.within known.line)
    (c.in_ok-take_any_line.ensures.taken before known.read.taken)
