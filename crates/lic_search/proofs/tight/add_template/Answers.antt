-- The matches of one template.
use Rattle.std.proofs.Common.{◌≡◌, get_or, map, rules, Some, sym, subst, ap, ◌∙◌}
use Rattle.std.specs.List.{slice_get}
use Rattle.std.proofs.lemmas.Option.{slice_get-get_or}
use Rattle.std.proofs.lemmas.Result.{on_ok_weaker}
use Rattle.std.proofs.lemmas.Iterator.{YieldsList-from_map, YieldsList-from_slice}
use Rattle.std.proofs.lemmas.Iterator.Adapters.{items_from_extend}
use Rattle.lic_markup.specs.Parts.{part_of}
use Rattle.lic_markup.specs.Meaning.{parts_words}
use Rattle.lic_places.specs.Places.{spelling_of}
use Rattle.lic_set.specs.Sets.{Known}
use Rattle.lic_search.specs.Matches.{HasLeastRanges}
use Rattle.lic_search.proofs.LeastMatchLemmas.{adds_least}
use Rattle.lic_search.proofs.TemplateMatches.{known_for, required_of, triple_of}
use Rattle.lic_search.proofs.tight.add_template.Goals as goal

pub least_ranges-requires-clause-required : goal.least_ranges-requires-clause-required
least_ranges-requires-clause-required c =
    let other : Known = known_for c.template-template.result.now in
    let number = c.args.candidate.now.number in
    let same : (get_or c.args.set.now number other).template.parts ≡ c.parts.result.now = ap (λ t. t.parts) (sym (c.template-template.ensures other)) ∙ sym c.parts.ensures in
    required_of c.args.set.now number other c.parts.result.now (spelling_of c.args.text.now.tokens) (spelling_of c.args.view.now) c.in_ok-required.required
    (ap spelling_of (sym c.requires.text)) same c.in_ok-required.ensures.ends c.in_ok-required.ensures.rising

pub returns : goal.returns
returns c =
    let set = c.args.set.now in
    let tokens = c.args.view.now in
    let number = c.args.candidate.now.number in
    let old = c.args.found.now.items in
    let new = c.extend.new.self.items in
    let ranges = c.in_ok-ranges.ranges.items in
    let other : Known = known_for c.template-template.result.now in
    let known : Known = get_or set number other in
    let is : slice_get set number ≡ Some known = slice_get-get_or set number other c.requires.candidate.below in
    let same : known.template.parts ≡ c.parts.result.now = ap (λ t. t.parts) (sym (c.template-template.ensures other)) ∙ sym c.parts.ensures in
    let least = subst (λ parts. HasLeastRanges tokens (parts_words (map part_of parts)) ranges) (sym same) c.in_ok-ranges.ensures in
    let added = items_from_extend c.extend.result c.extend.ensures.ran
    (YieldsList-from_map _ (triple_of number) (YieldsList-from_slice ranges (cc)) c.map.ensures.closure (λ x r q k. search rules)) in
    on_ok_weaker c.extend.result (λ h. adds_least set tokens number known is ranges old new least h.0) added
