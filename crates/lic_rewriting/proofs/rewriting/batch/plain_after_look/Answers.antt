use Rattle.std.proofs.Common.{◌∙◌, sym}
use Rattle.lic_rewriting.proofs.rewriting.batch.plain_after_look.Goals as goal

pub returns-clause-no_sign : goal.returns-clause-no_sign
returns-clause-no_sign c = sym c.is_sign.ensures ∙ c.if-is_sign.false

pub returns-clause-left : goal.returns-clause-left
returns-clause-left c = c.leaves.ensures c.if-not-leaves.false
