use Rattle.std.specs.Str.{chars}
use Rattle.lic_auto.specs.Changes.{AreChangedBefore}
use Rattle.lic_auto.specs.TemplateBacks.{TakesReversed}
use Rattle.lic_auto.proofs.template_backs.take_reversed.Given as goal

abbrev pub invariant-loop-one : goal.invariant-loop-one
invariant-loop-one l = AreChangedBefore (TakesReversed (chars l.token)) l.one-index l.initial.backs l.backs
