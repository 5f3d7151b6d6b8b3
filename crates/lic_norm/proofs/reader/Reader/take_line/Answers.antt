use Rattle.std.proofs.Common.{ap, ap₂, length, take, drop, sym, subst, arith}
use Rattle.std.specs.List.{slice_range}
use Rattle.lic_kind.specs.LineRules.{rules_of}
use Rattle.lic_norm.specs.LineEnds.{IsFirstLine}
use Rattle.lic_norm.specs.Reading.{HasRead}
use Rattle.lic_rewriting.specs.Taking.{HasTaken}
use Rattle.lic_norm.specs.Tokens.{first_tokens_of}
use Rattle.lic_norm.specs.declared.reader.Reader.{Reader}
use Rattle.lic_norm.proofs.reader.Reader.take_line.Goals as goal

pub take_any_line-requires-clause-read : goal.take_any_line-requires-clause-read
take_any_line-requires-clause-read c = subst HasRead (sym (c.in_ok-take_ascii.ensures.other c.if-not-branch.true)) c.requires.read

pub take_any_line-requires-clause-order : goal.take_any_line-requires-clause-order
take_any_line-requires-clause-order c =
    let same = c.in_ok-take_ascii.ensures.other c.if-not-branch.true in
    omega (arith, ap (λ (r : Reader). r.line_start) same, c.requires.order)

pub take_any_line-requires-clause-within : goal.take_any_line-requires-clause-within
take_any_line-requires-clause-within c = omega (arith, c.requires.within, ap length c.take_ascii.ensures.source)

pub take_any_line-requires-clause-fits : goal.take_any_line-requires-clause-fits
take_any_line-requires-clause-fits c = omega (arith, c.requires.fits, ap length c.take_ascii.ensures.source)

pub take_any_line-requires-clause-line : goal.take_any_line-requires-clause-line
take_any_line-requires-clause-line c =
    let same = c.in_ok-take_ascii.ensures.other c.if-not-branch.true in
    subst (λ (r : Reader). IsFirstLine (slice_range r.source.items r.line_start c.args.end) (drop c.args.end r.source.items)) (sym same) c.requires.line

pub returns-in_ok-take_any_line-clause-taken : goal.returns-in_ok-take_any_line-clause-taken
returns-in_ok-take_any_line-clause-taken c =
    subst (HasTaken c.take_any_line.new.self.rewriting)
    (ap₂ (λ r bytes. first_tokens_of (rules_of r) 0 (take c.args.end bytes)) c.take_ascii.ensures.rules c.take_ascii.ensures.source)
    c.in_ok-take_any_line.ensures.taken
