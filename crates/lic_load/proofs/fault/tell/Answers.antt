use Rattle.std.proofs.Common.{◌⊎◌, Result, Ok, Err, OnOk, OnErr, inl, inr, subst}
use Rattle.lic_load.specs.Reporting.{IsReported}
use Rattle.lic_load.proofs.fault.tell.Goals as goal

-- what holds where a call succeeded, or what holds where it failed
either : {T E : Type 0} (r : Result T E) {A B C D : Type 0} → OnOk r A → OnOk r B → OnErr r C → OnErr r D → (A × B) ⊎ (C × D)
either (Ok x) a b c d = inl (a, b)
either (Err e) a b c d = inr (c, d)

pub returns : goal.returns
returns g c =
    let taken = g.E.Sink.taken in
    let failed = g.E.Sink.failed in
    subst (λ text. IsReported (taken c.args.err.now) (taken c.put_all.new.out) (failed c.args.err.now) (failed c.put_all.new.out) text) c.as_bytes.ensures.value
    (either c.put_all.result c.put_all.ensures.ok c.put_all.ensures.sound c.put_all.ensures.part c.put_all.ensures.failed)
