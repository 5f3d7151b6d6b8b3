use Rattle.std.proofs.Common.{rules, ◌≡◌, ◌-◌, arith, sym, subst, ◌∙◌, vec_len}
use Rattle.std.proofs.lemmas.Bool.{eqb-true}
use Rattle.std.proofs.lemmas.List.{nil_from_length}
use Rattle.lic_words.specs.Expressions.{Language}
use Rattle.lic_markup.specs.Meaning.{part_words}
use Rattle.lic_markup.specs.declared.part.Part.{the_lemmas}
use Rattle.lic_markup.specs.Parts.{part_of}
use Rattle.lic_markup.specs.PartTexts.{HasPieceTexts}
use Rattle.lic_view.specs.PlaceSets.{ArePlaced}
use Rattle.lic_view.specs.Backward.{IsBack}
use Rattle.lic_view.proofs.MergeLemmas.{merged-placed, merged-same}
use Rattle.lic_search.proofs.PartLemmas.{parts-absent, parts-all, parts-copies, parts-last, parts-more, parts-optional}
use Rattle.lic_keys.proofs.LongestLemmas.{texts-at}
use Rattle.lic_search.proofs.backward.+backward.Goals as goal

pub over_optional-over_parts-requires : goal.over_optional-over_parts-requires
over_optional-over_parts-requires t c = (
  search (rules, the_lemmas),
  (c.requires.texts, subst (λ x. ArePlaced c.args.view.now x) (sym (c.in_ok-copy.ensures.items ∙ c.deref.ensures.value)) c.requires.placed),
)

pub over_optional-returns-then-is_empty : goal.over_optional-returns-then-is_empty
over_optional-returns-then-is_empty t c =
    let long = c.in_ok-more.more.ok.0 in
    let none : vec_len c.in_ok-more.more ≡ 0 = eqb-true (vec_len c.in_ok-more.more) 0 (sym c.is_empty.ensures ∙ c.if-is_empty.true) in
    parts-absent c.args.keep c.args.view.now c.args.parts.now c.args.spans.items c.in_ok-copy.copy.items c.in_ok-more.more.items c.requires.placed
    (c.in_ok-copy.ensures.items ∙ c.deref.ensures.value) c.in_ok-more.ensures (nil_from_length c.in_ok-more.more.items (omega arith))

pub over_optional-kept-requires : goal.over_optional-kept-requires
over_optional-kept-requires t c =
    merged-placed c.args.view.now c.args.spans.items c.in_ok-more.more.items c.in_ok-all.all.items
    (merged-same _ _ c.args.spans.items c.in_ok-more.more.items c.in_ok-all.all.items c.deref-2.ensures.value c.deref-3.ensures.value c.in_ok-all.ensures)
    c.requires.placed c.in_ok-more.ensures.placed

pub over_optional-returns : goal.over_optional-returns
over_optional-returns t c =
    parts-optional c.args.keep c.args.view.now c.args.parts.now c.args.spans.items c.in_ok-copy.copy.items c.in_ok-more.more.items c.requires.placed
    (c.in_ok-copy.ensures.items ∙ c.deref.ensures.value) c.in_ok-more.ensures
    c.in_ok-all.all.items c.in_ok-kept.field-0.items c.tokens_have_texts.ensures
    (merged-same _ _ c.args.spans.items c.in_ok-more.more.items c.in_ok-all.all.items c.deref-2.ensures.value c.deref-3.ensures.value c.in_ok-all.ensures)
    c.in_ok-kept.ensures

pub over_parts-loop-end-init : goal.over_parts-loop-end-init
over_parts-loop-end-init t c = record {
  within = omega arith;
  back = parts-last c.args.keep c.args.view.now c.args.parts.now c.args.spans.items c.requires.placed;
}

pub over_parts-over_part-requires : goal.over_parts-over_part-requires
over_parts-over_part-requires t c = (
  search (rules, the_lemmas),
  (
    subst (λ p. HasPieceTexts (part_of p)) (sym c.index-parts-end.is)
        (texts-at c.args.parts.now (c.loop-end.end - 1) c.index-parts-end.result (omega (arith, c.loop-end.invariant.within, c.loop-end-test.true)) c.requires.texts),
    c.loop-end.invariant.back.placed,
  ),
)

pub over_parts-loop-end-preserved-in-Some : goal.over_parts-loop-end-preserved-in-Some
over_parts-loop-end-preserved-in-Some t c =
    let copies = c.in-Some.ensures.copies in
    record {
      within = omega (arith, copies.within, c.loop-end.invariant.within);
      back = parts-copies c.args.keep c.args.view.now c.args.parts.now c.loop-end.end c.in-Some.copies.text.now c.in-Some.copies.first c.in-Some.copies.count
          c.args.spans.items c.loop-end.spans.items c.in_ok-spans.spans.items copies c.loop-end.invariant.back c.in_ok-spans.ensures;
    }

pub over_parts-loop-end-preserved : goal.over_parts-loop-end-preserved
over_parts-loop-end-preserved t c = record {
  within = omega (arith, c.loop-end.invariant.within);
  back = parts-more c.args.keep c.args.view.now c.args.parts.now c.loop-end.end c.index-parts-end.result c.args.spans.items c.loop-end.spans.items c.in_ok-spans-2.spans.items
      (omega (arith, c.loop-end-test.true)) c.loop-end.invariant.within c.loop-end.invariant.back
      (subst (λ p. IsBack c.args.keep c.args.view.now (Language (part_words p)) c.loop-end.spans.items c.in_ok-spans-2.spans.items) c.index-parts-end.is c.in_ok-spans-2.ensures);
}

pub over_parts-returns : goal.over_parts-returns
over_parts-returns t c =
    parts-all c.args.keep c.args.view.now c.args.parts.now c.loop-end.end c.args.spans.items c.loop-end.spans.items (omega (arith, c.loop-end-test.false)) c.loop-end.invariant.back
