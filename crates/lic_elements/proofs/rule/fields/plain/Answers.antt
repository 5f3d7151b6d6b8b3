use Rattle.std.proofs.Common.{false, sym, refl, ◌∙◌, eqb}
use Rattle.lic_elements.specs.Signs.{backslash}
use Rattle.lic_elements.specs.Pieces.{characters}
use Rattle.lic_elements.specs.Rules.{plain_at}
use Rattle.lic_elements.proofs.LocatedLemmas.{ends_all, ends_on}
use Rattle.lic_elements.proofs.RuleLemmas.{none_passed, pass, stop, refuse, read, plain-ends, plain-continues, plain-open}
use Rattle.lic_elements.proofs.rule.fields.plain.Goals as goal

pub loop-first-init : goal.loop-first-init
loop-first-init c =
    let all = characters c.args.all in
    record { ends = ends_all c.args.all; passed = none_passed all (read all (plain_at c.args.rule false all)) }

pub returns-then-ends_plain : goal.returns-then-ends_plain
returns-then-ends_plain c =
    stop _ _ _ _ _ 0 _
    (plain-ends c.args.rule c.loop-first.escaped _ _ _ c.in-Some.ensures.some
    (sym c.ends_plain.ensures ∙ c.if-ends_plain.true)) refl c.up_to.ensures c.loop-first.invariant.passed

pub loop-first-preserved : goal.loop-first-preserved
loop-first-preserved c =
    let x = c.in-Some.first in
    let is = c.in-Some.ensures.some in
    let inv = c.loop-first.invariant in
    record {
      ends = ends_on c.args.all c.loop-first.rest c.in-Some.after inv.ends c.in-Some.ensures.end;
      passed = pass _ _ _ _ (plain_at c.args.rule c.loop-first.escaped)
          (plain_at c.args.rule (eqb x.1 backslash)) _ is
          (plain-continues c.args.rule c.loop-first.escaped _ x _ is
          (sym c.ends_plain.ensures ∙ c.if-ends_plain.false)) inv.passed;
    }

pub returns : goal.returns
returns c = refuse _ _ _ _ _ (plain-open c.args.rule c.loop-first.escaped _ c.in_default.ensures.none) c.loop-first.invariant.passed
