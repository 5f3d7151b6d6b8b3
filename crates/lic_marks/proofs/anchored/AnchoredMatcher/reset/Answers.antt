use Rattle.std.proofs.Common.{[], ◌∷◌, refl}
use Rattle.lic_marks.specs.Nodes.{core_of}
use Rattle.lic_marks.proofs.anchored.AnchoredMatcher.reset.Goals as goal

pub returns-clause-taken : goal.returns-clause-taken
returns-clause-taken c = λ e words. record {
  words = words;
  empty = (λ _. refl, λ _. refl);
  last = refl;
  taken = c.gap.ensures.taken ([] ∷ []) (c.begin.ensures.taken (core_of c.args.self.now.tree));
}
