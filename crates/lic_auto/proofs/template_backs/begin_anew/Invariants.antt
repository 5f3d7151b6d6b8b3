use Rattle.lic_auto.specs.Changes.{AreChangedBefore}
use Rattle.lic_auto.specs.TemplateBacks.{BeginsAnew}
use Rattle.lic_auto.proofs.template_backs.begin_anew.Given as goal

abbrev pub invariant-loop-one : goal.invariant-loop-one
invariant-loop-one l = AreChangedBefore BeginsAnew l.one-index l.initial.backs l.backs
