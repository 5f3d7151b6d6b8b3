use Rattle.std.proofs.Common.{◌≡◌, take, []}
use Rattle.lic_auto.specs.TemplateBacks.{AreReversed, HaveTakenBackward, back_numbers}
use Rattle.lic_auto.proofs.back.Back.over.Given as goal

abbrev pub invariant-loop-number : goal.invariant-loop-number
invariant-loop-number l = record {
  numbers : back_numbers l.backs.items ≡ take l.number-index l.number-items;
  mirrors : AreReversed l.set l.backs.items;
  sought : HaveTakenBackward l.set l.backs.items [];
}
