-- What the span that is added has.
use Rattle.std.proofs.Common.{◌-◌, ◌<◌, ◌≤◌, inl, inr, ⊎_elim, refl, sym, arith}
use Rattle.lic_spans.specs.declared.span.PlaceSpan.{PlaceSpan}
use Rattle.lic_spans.proofs.Members.{Holds-single, HasPlace-single}
use Rattle.lic_spans.proofs.sweep.Sweep.cover.Goals as goal

pub returns-in_ok-add-clause-covers : goal.returns-in_ok-add-clause-covers
returns-in_ok-add-clause-covers c =
    let span : PlaceSpan = record { low = c.args.self.now.at; high = c.args.stop - 1; last = c.args.last; kind = c.args.self.now.kind } in
    let holds = c.in_ok-add.ensures.holds in
    let more : c.args.self.now.at < c.args.stop = c.if-self-stop.true in record {
      kept = λ k p l h. (holds k p l).1 (inl h);
      added = λ p from to. (holds span.kind p span.last).1 (inr (Holds-single span span.kind p span.last (record { kind = refl; from = from; to = omega arith; last = refl })));
      fits = λ small all. c.in_ok-add.ensures.fits (λ single. let one = small single in omega arith) all;
      sound = λ k p l h.
          ⊎_elim (λ old. inl old)
          (λ new. let has = HasPlace-single span k p l new in
          let to : p ≤ c.args.stop - 1 = has.to in
          inr (sym has.kind, has.from, omega arith, sym has.last))
          ((holds k p l).0 h);
    }
