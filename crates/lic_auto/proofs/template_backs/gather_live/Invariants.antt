use Rattle.std.proofs.Common.{◌≡◌, ◌≤◌, length, take}
use Rattle.lic_auto.proofs.Gathered.{AreGathered}
use Rattle.lic_auto.proofs.template_backs.gather_live.Given as goal

abbrev pub invariant-loop-one : goal.invariant-loop-one
invariant-loop-one l = record {
  few : l.count ≤ l.one-index;
  size : length l.live ≡ length l.initial.live;
  gathered : AreGathered l.backs (take l.count l.live) l.one-index;
}
