-- One span more, and then all.
use Rattle.std.proofs.Common.{◌↔◌, ℕ, ◌<◌, List, arith, get_or, inl, inr, length, subst, sym, take, ⊎_elim}
use Rattle.std.proofs.lemmas.List.{take_all, take_more}
use Rattle.lic_spans.specs.declared.span.SpanKind.TheVariants.{End}
use Rattle.lic_spans.specs.declared.span.PlaceSpan.{PlaceSpan}
use Rattle.lic_spans.specs.Spans.{AreBefore, Holds, StartsBefore}
use Rattle.lic_spans.proofs.Lasts.{AreBefore-later}
use Rattle.lic_spans.proofs.Sorting.{AllPairs-next}
use Rattle.lic_spans.proofs.Settling.{Holds-push}
use Rattle.lic_spans.proofs.each.joined.Goals as goal

-- what code reads an index with
none : PlaceSpan
none = record { low = 0; high = 0; last = 0; kind = End }

pub loop-span-preserved : goal.loop-span-preserved
unfolding none
loop-span-preserved c =
    let i : ℕ = c.loop-span.span-index in
    let spans : List PlaceSpan = c.args.spans.now in
    let span : PlaceSpan = get_or spans i none in
    let low : i < length spans = c.loop-span-test.true in
    let added = c.in_ok-add.ensures in
    let before : AreBefore c.add.new.spans.items span =
    added.before (record { apart = c.loop-span.invariant.apart; start = c.loop-span.invariant.start i none (omega arith) low }) in
    record {
      same = λ k p t. subst (λ xs. Holds c.add.new.spans.items k p t ↔ Holds xs k p t) (sym (take_more spans i none low)) (
        λ h. (Holds-push (take i spans) span k p t).1
            (⊎_elim (λ old. inl ((c.loop-span.invariant.same k p t).0 old)) (λ new. inr new) ((added.holds k p t).0 h)),
        λ h. (added.holds k p t).1
            (⊎_elim (λ old. inl ((c.loop-span.invariant.same k p t).1 old)) (λ new. inr new) ((Holds-push (take i spans) span k p t).0 h)),
      );
      apart = before.apart;
      start = λ j d from within.
          let on : StartsBefore span (get_or spans j d) = AllPairs-next StartsBefore spans c.requires.sorted i none low j d from within in
          let later = AreBefore-later c.add.new.spans.items span (get_or spans j d) on before in
          later.start;
      ordered = added.ordered c.loop-span.invariant.ordered;
      few = omega (arith, added.few, c.loop-span.invariant.few);
    }

pub returns-clause-same : goal.returns-clause-same
returns-clause-same c = λ k p t.
    subst (λ xs. Holds c.loop-span.each.items k p t ↔ Holds xs k p t) (take_all c.loop-span.span-index c.args.spans.now c.loop-span-test.false)
    (c.loop-span.invariant.same k p t)

pub returns-clause-apart : goal.returns-clause-apart
returns-clause-apart c = c.loop-span.invariant.apart
