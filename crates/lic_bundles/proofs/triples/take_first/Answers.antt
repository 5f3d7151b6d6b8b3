use Rattle.std.proofs.Common.{sym, ◌∙◌}
use Rattle.lic_bundles.proofs.Queues.{first_of_begun, first_of_waiting}
use Rattle.lic_bundles.proofs.triples.take_first.Goals as goal

pub returns-then-comes_first-clause-first : goal.returns-then-comes_first-clause-first
returns-then-comes_first-clause-first c =
    first_of_begun c.args.begun.now.items c.args.waiting.now.items c.requires.begun_sorted c.requires.waiting_sorted
    (sym c.comes_first.ensures ∙ c.if-comes_first.true) c.pop_front.result c.pop_front.new.self.items c.pop_front.ensures.items

pub returns-else-comes_first-clause-first : goal.returns-else-comes_first-clause-first
returns-else-comes_first-clause-first c =
    let pop = c.pop_front-else-comes_first in
    first_of_waiting c.args.begun.now.items c.args.waiting.now.items c.requires.begun_sorted c.requires.waiting_sorted
    (sym c.comes_first.ensures ∙ c.if-comes_first.false) pop.result pop.new.self.items pop.ensures.items
