use Rattle.std.proofs.Common.{◌++◌, ◌-◌, ap, subst, ◌∙◌, take, drop, length-take, length-drop, arith}
use Rattle.lic_kind.specs.LineRules.{rules_of}
use Rattle.lic_rewriting.specs.Taking.{HasTaken}
use Rattle.lic_norm.specs.Tokens.{first_tokens_of}
use Rattle.std.specs.List.{slice_range}
use Rattle.lic_norm.proofs.WholeLines.{more_bytes}
use Rattle.lic_norm.proofs.reader.Reader.take_ascii.Goals as goal

pub take_ascii-requires-clause-fits : goal.take_ascii-requires-clause-fits
take_ascii-requires-clause-fits c =
    let here = c.deref.result.now in
    let at = c.args.self.now.line_start in
    omega (
      arith,
      length-take (c.args.end - at) (drop at here),
      length-drop at here,
      c.if-end-gt-MAX_BYTES.false,
      c.requires.order,
    )

pub returns-clause-taken : goal.returns-clause-taken
returns-clause-taken c = λ _.
    let known = c.requires in
    let old = c.args.self.now in
    let source = old.source.items in
    let at = old.line_start in
    let end = c.args.end in
    let rules = rules_of old.rules.now in
    let before = first_tokens_of rules 0 (take at source) in
    subst (HasTaken c.take_ascii.new.rewriting)
    (ap (λ l. before ++ first_tokens_of rules at l) (ap (λ l. slice_range l at end) c.deref.ensures.value)
    ∙ more_bytes rules source at end known.read.lines known.order known.within)
    (c.in_ok-take_ascii.ensures.taken before known.read.taken)
