use Rattle.std.proofs.Common.{sym, ap, ◌∙◌, drop}
use Rattle.lic_elements.specs.Pieces.{characters}
use Rattle.lic_elements.specs.Rules.{name_at}
use Rattle.lic_elements.proofs.LocatedLemmas.{ends_all, ends_on}
use Rattle.lic_elements.proofs.RuleLemmas.{none_passed, pass, stop, refuse, read, name-ends, name-refused, name-continues, name-open}
use Rattle.lic_elements.proofs.rule.fields.name.Goals as goal

pub loop-after-init : goal.loop-after-init
loop-after-init c =
    let all = characters c.args.all in
    record { ends = ends_all c.args.all; passed = none_passed all (read all (name_at c.args.rule c.args.start all)) }

pub returns-then-begins_with : goal.returns-then-begins_with
returns-then-begins_with c =
    let is = c.in-Some.ensures.some in
    stop _ _ _ _ _ 1 _
    (name-ends c.args.rule c.args.start _ _ _ is (sym c.begins_with.ensures ∙ c.if-begins_with.true))
    (ap (drop 1) is) c.up_to.ensures c.loop-after.invariant.passed

pub returns-then-at_end : goal.returns-then-at_end
returns-then-at_end c =
    refuse _ _ _ _ _ (name-refused c.args.rule c.args.start _ _ _ c.in-Some.ensures.some
    (sym c.begins_with.ensures ∙ c.if-begins_with.false)
    (sym c.at_end.ensures ∙ c.if-at_end.true)) c.loop-after.invariant.passed

pub loop-after-preserved : goal.loop-after-preserved
loop-after-preserved c =
    let is = c.in-Some.ensures.some in
    let inv = c.loop-after.invariant in
    record {
      ends = ends_on c.args.all c.loop-after.rest c.in-Some.after inv.ends c.in-Some.ensures.end;
      passed = pass _ _ _ _ (name_at c.args.rule c.args.start) (name_at c.args.rule c.args.start) _ is
          (name-continues c.args.rule c.args.start _ _ _ is (sym c.begins_with.ensures ∙ c.if-begins_with.false)
          (sym c.at_end.ensures ∙ c.if-at_end.false)) inv.passed;
    }

pub returns : goal.returns
returns c = refuse _ _ _ _ _ (name-open c.args.rule c.args.start _ c.in_default.ensures.none) c.loop-after.invariant.passed
