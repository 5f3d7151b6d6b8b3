-- The letters so far were read.
use Rattle.std.proofs.Common.{length, take}
use Rattle.std.specs.Str.{chars}
use Rattle.lic_vars.specs.Cuts.{LeadsTo}
use Rattle.lic_vars.proofs.cut.after_text.Given as goal

abbrev pub invariant-loop-c : goal.invariant-loop-c
invariant-loop-c l = LeadsTo l.view l.initial.cut (take (length l.yielded) (chars l.text)) l.cut
