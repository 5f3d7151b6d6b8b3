use Rattle.std.proofs.Common.{◌≤◌, ℕ, map, subst, sym}
use Rattle.lic_markup.specs.Meaning.{parts_words}
use Rattle.lic_markup.specs.Parts.{part_of}
use Rattle.lic_places.specs.Reads.{BeginsAt}
use Rattle.lic_view.specs.PlaceSets.{Reaches}
use Rattle.lic_view.specs.declared.sets.keep.Keep.TheVariants.{Least}
use Rattle.lic_search.proofs.MatchLemmas.{least-ranges}
use Rattle.lic_search.proofs.search.least_ranges.Goals as goal

pub returns : goal.returns
returns c =
    let tokens = c.args.view.now in
    least-ranges Least tokens (parts_words (map part_of c.args.parts.now)) c.in_ok-begins.begins.items c.tokens_have_texts.ensures c.in_ok-begins.ensures
    c.in_ok-ranges_of.field-0.items
    (λ range among. subst (λ x. (range.first ≤ range.last) × ((p : ℕ) × Reaches tokens x p range.last × BeginsAt tokens range.first p)) c.deref.ensures.value
    (c.in_ok-ranges_of.ensures.sound range among))
    (λ p first last r at order. c.in_ok-ranges_of.ensures.within p first last (subst (λ x. Reaches tokens x p last) (sym c.deref.ensures.value) r) at order)
