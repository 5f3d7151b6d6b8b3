-- One span more, and then all.
use Rattle.std.proofs.Common.{◌≡◌, ◌+◌, [], ◌∷◌, ◌++◌, ap, get_or, subst, subst₂, sym, take, ◌∙◌}
use Rattle.std.proofs.lemmas.List.{take_all, take_more}
use Rattle.std.proofs.lemmas.List.Elements.{Contains-get_or}
use Rattle.lic_spans.specs.declared.span.SpanKind.TheVariants.{End}
use Rattle.lic_spans.specs.declared.span.PlaceSpan.{PlaceSpan}
use Rattle.lic_search.proofs.MatchLists.{ArePlaced-one}
use Rattle.lic_search.proofs.BundleLemmas.{AreFirstsOf, firsts-joined, firsts-more, firsts-none, firsts-skip}
use Rattle.lic_search.proofs.bundles.firsts_of.Goals as goal
use Rattle.lic_search.proofs.bundles.firsts_of.Goals.{In_ok-with_each_last, in-Some+in_ok-push, in_default}

abbrev none : PlaceSpan
none = record { low = 0; high = 0; last = 0; kind = End }

pub loop-span-init : goal.loop-span-init
loop-span-init c = firsts-none c.args.view.now c.new-firsts.result.items c.new-firsts.ensures.items

pub firsts_in-requires : goal.firsts_in-requires
firsts_in-requires c =
    ArePlaced-one c.args.view.now c.args.spans.now _ c.requires (Contains-get_or c.args.spans.now c.loop-span.span-index _ c.loop-span-test.true)

pub loop-span-preserved : goal.loop-span-preserved
loop-span-preserved c =
    let tokens = c.args.view.now in
    let spans = c.args.spans.now in
    let index = c.loop-span.span-index in
    let span = get_or spans index none in
    let more : take (index + 1) spans ≡ take index spans ++ span ∷ [] = take_more spans index none c.loop-span-test.true in
    elim c.match-firsts_in.branch [
      | in-Some+in_ok-push w ↦
          subst₂ (AreFirstsOf tokens) (sym more) (sym (ap (λ v. v.items) w.firsts-is ∙ w.in_ok-push.ensures.items))
          (firsts-more tokens (take index spans) c.loop-span.firsts.items span c.loop-span.invariant w.in-Some.more w.in-Some.ensures)
      | in_default w ↦
          subst₂ (AreFirstsOf tokens) (sym more) (sym (ap (λ v. v.items) w.firsts-is))
          (firsts-skip tokens (take index spans) c.loop-span.firsts.items span c.loop-span.invariant w.in_default.ensures)
    ]

-- all spans
all : (c : In_ok-with_each_last) → AreFirstsOf c.args.view.now c.args.spans.now c.in_ok-with_each_last.field-0.items
all c =
    firsts-joined c.args.view.now c.args.spans.now c.loop-span.firsts.items c.in_ok-with_each_last.field-0.items
    (subst (λ x. AreFirstsOf c.args.view.now x c.loop-span.firsts.items) (take_all c.loop-span.span-index c.args.spans.now c.loop-span-test.false) c.loop-span.invariant)
    c.in_ok-with_each_last.ensures.same c.in_ok-with_each_last.ensures.ordered

pub returns-clause-exact : goal.returns-clause-exact
returns-clause-exact c = let are = all c in are.exact

pub returns-clause-kinds : goal.returns-clause-kinds
returns-clause-kinds c = let are = all c in are.kinds
