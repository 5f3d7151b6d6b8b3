-- One span more, and then all.
use Rattle.std.proofs.Common.{◌≡◌, ◌+◌, [], ◌∷◌, ◌++◌, get_or, take, sym, subst, subst₂, ap, ◌∙◌, Vec, Global}
use Rattle.std.proofs.lemmas.List.{take_all, take_more}
use Rattle.std.proofs.lemmas.List.Elements.{Contains-get_or}
use Rattle.lic_spans.specs.declared.span.SpanKind.TheVariants.{End}
use Rattle.lic_spans.specs.declared.span.PlaceSpan.{PlaceSpan}
use Rattle.lic_search.specs.declared.range.Range.{Range}
use Rattle.lic_search.specs.Beginnings.{BeginsIn}
use Rattle.lic_search.proofs.MatchLists.{ArePlaced-one, AreRanges, AreRanges-none, AreRanges-some}
use Rattle.lic_search.proofs.matches.ranges_of.Goals as goal
use Rattle.lic_search.proofs.matches.ranges_of.Goals.{in-Some+in_ok-push, in_default}

abbrev none : PlaceSpan
none = record { low = 0; high = 0; last = 0; kind = End }

pub last_beginning-requires : goal.last_beginning-requires
last_beginning-requires c =
    ArePlaced-one c.args.view.now c.args.spans.now _ c.requires.placed (Contains-get_or c.args.spans.now c.loop-span.span-index _ c.loop-span-test.true)

pub loop-span-preserved : goal.loop-span-preserved
loop-span-preserved c =
    let tokens = c.args.view.now in
    let spans = c.args.spans.now in
    let index = c.loop-span.span-index in
    let span = get_or spans index none in
    let among = Contains-get_or spans index none c.loop-span-test.true in
    let more : take (index + 1) spans ≡ take index spans ++ span ∷ [] = take_more spans index none c.loop-span-test.true in
    elim c.match-last_beginning.branch [
      | in-Some+in_ok-push w ↦
          let found : c.match-last_beginning.found.items ≡ c.loop-span.found.items ++ w.in-Some.range ∷ [] =
          ap (λ (v : Vec Range Global). v.items) w.found-is ∙ w.in_ok-push.ensures.items in
          subst₂ (AreRanges tokens spans) (sym more) (sym found)
          (AreRanges-some tokens spans (take index spans) c.loop-span.found.items span w.in-Some.range c.loop-span.invariant among w.in-Some.ensures)
      | in_default w ↦
          let found : c.match-last_beginning.found.items ≡ c.loop-span.found.items = ap (λ (v : Vec Range Global). v.items) w.found-is in
          subst₂ (AreRanges tokens spans) (sym more) (sym found)
          (AreRanges-none tokens spans (take index spans) c.loop-span.found.items span c.loop-span.invariant w.in_default.ensures)
    ]

pub returns-clause-sound : goal.returns-clause-sound
returns-clause-sound c = λ range among.
    let begins = c.loop-span.invariant.sound range among in
    (begins.order, (begins.place, begins.reached, begins.begins))

pub returns-clause-within : goal.returns-clause-within
returns-clause-within c = λ p first last reached begins order.
    let spans = c.args.spans.now in
    let all : take c.loop-span.span-index spans ≡ spans = take_all c.loop-span.span-index spans c.loop-span-test.false in
    let at : BeginsIn c.args.view.now spans first last = record { order = order; place = p; reached = reached; begins = begins } in
    let around = c.loop-span.invariant.within first last (subst (λ taken. BeginsIn c.args.view.now taken first last) (sym all) at) in
    (around.range, around.among, around.from, around.to)
