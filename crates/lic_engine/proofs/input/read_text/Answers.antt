use Rattle.std.proofs.Common.{◌++◌, Err, ap, refl, subst}
use Rattle.lic_norm.specs.Refusal.{IsRefusal}
use Rattle.lic_norm.specs.declared.fault.TextFault.{TextFault}
use Rattle.lic_engine.proofs.InputLemmas.{of_reading, reads_counted, refusal_from, was_refused, was_unrefused}
use Rattle.lic_engine.proofs.input.read_text.Goals as goal

pub returns-in_err-read_to_end-clause-refused : goal.returns-in_err-read_to_end-clause-refused
returns-in_err-read_to_end-clause-refused g c = λ fault is not_memory.
    let text = refusal_from c.in_err-read_to_end.field-0.0 c.from_residual.result fault c.from_residual.ensures.1 is in
    let new = c.feeder-feeder.ensures in
    let refused = c.in_err-read_to_end.ensures.refused fault (ap Err text) (ap (λ v. v.refused) new) in
    was_refused _ _ fault refused.0 refused.1 (subst (λ l. IsRefusal fault (l ++ refused.0)) (ap (λ v. v.bytes) new) refused.2) not_memory

pub returns-in_err-read_to_end-clause-memory : goal.returns-in_err-read_to_end-clause-memory
returns-in_err-read_to_end-clause-memory g c = λ is.
    let text = refusal_from c.in_err-read_to_end.field-0.0 c.from_residual.result TextFault.Memory c.from_residual.ensures.1 is in
    let new = c.feeder-feeder.ensures in
    let refused = c.in_err-read_to_end.ensures.refused TextFault.Memory (ap Err text) (ap (λ v. v.refused) new) in
    was_unrefused _ _ TextFault.Memory refused.0 refused.1 (subst (λ l. IsRefusal TextFault.Memory (l ++ refused.0)) (ap (λ v. v.bytes) new) refused.2) refl

pub returns-in_err-read_to_end-clause-reads : goal.returns-in_err-read_to_end-clause-reads
returns-in_err-read_to_end-clause-reads g c =
    reads_counted c.in_err-read_to_end.field-0.0 c.from_residual.result _ _ c.from_residual.ensures.1
    (λ is. c.in_err-read_to_end.ensures.failed (ap Err is)) (λ refusal is. c.in_err-read_to_end.ensures.text refusal (ap Err is))

pub returns-in_err-read_to_end-clause-faults : goal.returns-in_err-read_to_end-clause-faults
returns-in_err-read_to_end-clause-faults g c = of_reading c.in_err-read_to_end.field-0.0 c.from_residual.result c.from_residual.ensures.1
