-- Of the tokens that begin up to the last place the last one begins in the span, or none does.
use Rattle.std.proofs.Common.{◌≡◌, ◌-◌, ◌<◌, ◌≤◌, length, refl, arith, rules}
use Rattle.lic_norm.specs.Places.{place_start}
use Rattle.lic_spans.specs.declared.span.SpanKind.TheVariants.{End}
use Rattle.lic_search.proofs.MatchSpans.{end-begins, greatest-first, some-first}
use Rattle.lic_view.proofs.ViewPlaces.{starts-order}
use Rattle.lic_view.proofs.ViewSpans.{last-one}
use Rattle.lic_search.proofs.matches.last_beginning.Goals as goal

pub returns-then-eq : goal.returns-then-eq
returns-then-eq c =
    let kind : c.args.span.kind ≡ End = search rules in
    λ first. end-begins c.args.view.now c.args.span first c.tokens_have_texts.ensures c.requires kind

pub overflow_sub-first : goal.overflow_sub-first
overflow_sub-first c =
    let last : c.args.span.last < length c.args.view.now = last-one c.args.view.now c.args.span c.requires in
    some-first c.args.view.now c.last_start-place.result c.first_beginning_from-first.result c.first_beginning_from-first.ensures (omega arith)

pub returns-then-start-span : goal.returns-then-start-span
returns-then-start-span c = λ first begins.
    let bound = c.first_beginning_from-first.ensures in
    let found = greatest-first c.args.view.now c.args.span c.last_start-place.result c.first_beginning_from-first.result c.tokens_have_texts.ensures c.requires
    bound c.last_start-place.ensures.begins first begins in
    absurd (omega (arith, found.1, c.start.ensures, c.if-start-span.true))

pub returns : goal.returns
returns c =
    let tokens = c.args.view.now in
    let count = c.first_beginning_from-first.result in
    let bound = c.first_beginning_from-first.ensures in
    let last : c.args.span.last < length tokens = last-one tokens c.args.span c.requires in
    let some : 1 ≤ count = some-first tokens c.last_start-place.result count bound (omega arith) in
    let inside : count - 1 < length tokens = omega (arith, bound.within) in
    let low : c.args.span.low ≤ place_start tokens (count - 1) = omega (arith, c.start.ensures, c.if-start-span.false) in
    let high : place_start tokens (count - 1) ≤ c.last_start-place.result = omega (arith, bound.before (count - 1) (omega arith)) in
    record {
      last = refl;
      begins = (c.last_start-place.ensures.begins (count - 1) inside).1 (record { from = low; to = high });
      greatest = λ first begins.
          (greatest-first tokens c.args.span c.last_start-place.result count c.tokens_have_texts.ensures c.requires bound c.last_start-place.ensures.begins first begins).0;
      from = λ first begins. ((c.last_start-place.ensures.begins first (omega (arith, begins.order))).0 begins).from;
      all = λ first up from.
          let starts = starts-order tokens first (count - 1) c.tokens_have_texts.ensures up inside in
          (c.last_start-place.ensures.begins first (omega arith)).1 (record { from = from; to = omega arith });
    }
