-- A token may begin after the blank at which a span of places ends, and within the span otherwise.
use Rattle.std.proofs.Common.{◌≡◌, sym, ◌∙◌, true, IsTrue, rules}
use Rattle.std.proofs.lemmas.Bool.{true≢false}
use Rattle.lic_places.specs.Places.{is_blank_at, spelling_of}
use Rattle.lic_spans.specs.declared.span.SpanKind.TheVariants.{Place}
use Rattle.lic_search.proofs.MatchSpans.{begins-over, begins-plain, high-before, high-blank}
use Rattle.lic_search.proofs.matches.last_start.Goals as goal
use Rattle.lic_search.proofs.matches.last_start.Goals.{else-eq-via-then-eq+else-is_blank, else-eq-via-else-eq}

pub returns-then-is_blank-clause-before : goal.returns-then-is_blank-clause-before
returns-then-is_blank-clause-before c =
    let blank : is_blank_at (spelling_of c.args.view.now) c.args.span.high ≡ true = sym c.is_blank.ensures ∙ c.if-is_blank.true in
    high-blank c.args.view.now c.args.span c.tokens_have_texts.ensures c.requires.placed c.requires.taken blank

pub returns-then-is_blank-clause-begins : goal.returns-then-is_blank-clause-begins
returns-then-is_blank-clause-begins c =
    let kind : c.args.span.kind ≡ Place = search rules in
    let blank : is_blank_at (spelling_of c.args.view.now) c.args.span.high ≡ true = sym c.is_blank.ensures ∙ c.if-is_blank.true in
    λ first. begins-over c.args.view.now c.args.span first c.tokens_have_texts.ensures c.requires.placed kind c.requires.taken blank

pub returns-clause-before : goal.returns-clause-before
returns-clause-before c = high-before c.args.view.now c.args.span c.requires.placed c.requires.taken

pub returns-clause-begins : goal.returns-clause-begins
returns-clause-begins c =
    let none : c.args.span.kind ≡ Place → ¬ IsTrue (is_blank_at (spelling_of c.args.view.now) c.args.span.high) =
    λ kind blank.
    elim c.else-eq.branch [
      | else-eq-via-then-eq+else-is_blank w ↦ true≢false (sym blank ∙ sym w.is_blank.ensures ∙ w.if-is_blank.false)
      | else-eq-via-else-eq w ↦ search rules
    ] in
    λ first. begins-plain c.args.view.now c.args.span first c.tokens_have_texts.ensures c.requires.placed c.requires.taken none
