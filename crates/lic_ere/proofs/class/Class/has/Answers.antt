use Rattle.std.proofs.Common.{rules}
use Rattle.std.proofs.lemmas.Bool.Decides.{Decides-at}
use Rattle.lic_ere.proofs.SetLemmas.{is_in-is}
use Rattle.lic_ere.proofs.class.Class.has.Goals as goal

pub returns-then-deref-clause-meaning : goal.returns-then-deref-clause-meaning
returns-then-deref-clause-meaning c = Decides-at _ _ (search rules) (is_in-is c.args.self.now c.args.letter)

pub returns-else-deref-clause-meaning : goal.returns-else-deref-clause-meaning
returns-else-deref-clause-meaning c = Decides-at _ _ (search rules) (is_in-is c.args.self.now c.args.letter)
