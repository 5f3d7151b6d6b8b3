use Rattle.std.proofs.Common.{[], ◌∷◌, refl}
use Rattle.lic_marks.specs.Nodes.{core_of}
use Rattle.lic_marks.proofs.anchored.AnchoredMatcher.new.Goals as goal

pub returns-clause-taken : goal.returns-clause-taken
returns-clause-taken c = λ e words. record {
  words = words;
  empty = (λ _. refl, λ _. refl);
  last = refl;
  taken = c.gap.ensures.taken ([] ∷ []) (c.in_ok-state.ensures.taken (core_of c.args.tree));
}
