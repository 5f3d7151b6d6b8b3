use Rattle.std.proofs.Common.{sym, ap, ◌∙◌, drop}
use Rattle.lic_elements.specs.Pieces.{characters}
use Rattle.lic_elements.specs.Rules.{quoted_at}
use Rattle.lic_elements.proofs.LocatedLemmas.{ends_all, ends_on}
use Rattle.lic_elements.proofs.RuleLemmas.{none_passed, pass, stop, refuse, read, quoted-ends, quoted-continues, quoted-open}
use Rattle.lic_elements.proofs.rule.fields.quoted.Goals as goal

pub loop-after-init : goal.loop-after-init
loop-after-init c =
    let all = characters c.args.all in
    record { ends = ends_all c.args.all; passed = none_passed all (read all (quoted_at c.args.rule all)) }

pub returns-then-ends_quoted : goal.returns-then-ends_quoted
returns-then-ends_quoted c =
    let is = c.in-Some.ensures.some in
    stop _ _ _ _ _ 1 _
    (quoted-ends c.args.rule _ _ _ is (sym c.ends_quoted.ensures ∙ c.if-ends_quoted.true))
    (ap (drop 1) is) c.up_to.ensures c.loop-after.invariant.passed

pub loop-after-preserved : goal.loop-after-preserved
loop-after-preserved c =
    let is = c.in-Some.ensures.some in
    let inv = c.loop-after.invariant in
    record {
      ends = ends_on c.args.all c.loop-after.rest c.in-Some.after inv.ends c.in-Some.ensures.end;
      passed = pass _ _ _ _ (quoted_at c.args.rule) (quoted_at c.args.rule) _ is
          (quoted-continues c.args.rule _ _ _ is
          (sym c.ends_quoted.ensures ∙ c.if-ends_quoted.false)) inv.passed;
    }

pub returns : goal.returns
returns c = refuse _ _ _ _ _ (quoted-open c.args.rule _ c.in_default.ensures.none) c.loop-after.invariant.passed
