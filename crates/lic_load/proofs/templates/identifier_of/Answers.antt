use Rattle.lic_load.proofs.templates.identifier_of.Goals as goal

pub returns-in_err-id-clause-none : goal.returns-in_err-id-clause-none
returns-in_err-id-clause-none c = rw c.from_residual.ensures (λ id is. c.in_err-id.ensures.cases id is.1)
