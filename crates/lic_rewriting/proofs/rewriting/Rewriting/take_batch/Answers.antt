use Rattle.std.proofs.Common.{List, ◌+◌, subst, sym}
use Rattle.lic_rewriting.specs.Taking.{HasTakenUpTo}
use Rattle.lic_tokens.specs.Tokens.{TokenValue}
use Rattle.lic_rewriting.specs.declared.rewriting.Rewriting.{Rewriting}
use Rattle.lic_rewriting.proofs.rewriting.Rewriting.take_batch.Goals as goal

pub add-requires-clause-spelled : goal.add-requires-clause-spelled
add-requires-clause-spelled c = let stated = c.spell-count.ensures.held.holds in record { tokens = stated.added; spelled = stated.spelled }

pub returns-clause-taken : goal.returns-clause-taken
returns-clause-taken c =
    let stated = c.spell-count.ensures.held.holds in
    let self : Rewriting = c.args.self.now in
    subst (λ (ts : List TokenValue). HasTakenUpTo c.args.section.now c.args.i (c.args.i + c.spell-count.result.count) self (record self { tokens = ts }))
    (sym (c.in_ok-add.ensures stated.added stated.spelled)) stated.taken
