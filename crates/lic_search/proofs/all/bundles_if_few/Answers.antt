-- The ranges that a template describes are its matches.
use Rattle.std.proofs.Common.{◌≡◌, Some, Vec, Global, arith, vec_len, get_or, map, sym, subst, ap, ◌∙◌}
use Rattle.std.specs.List.{slice_get}
use Rattle.std.proofs.lemmas.Bool.{eqb-true}
use Rattle.std.proofs.lemmas.List.{nil_from_length}
use Rattle.std.proofs.lemmas.Option.{slice_get-get_or}
use Rattle.lic_markup.specs.Parts.{part_of}
use Rattle.lic_markup.specs.Meaning.{parts_words}
use Rattle.lic_places.specs.Places.{spelling_of}
use Rattle.lic_set.specs.Sets.{Known}
use Rattle.lic_search.specs.AllMatches.{AreMatchBundles, AreBundlesOf}
use Rattle.lic_search.specs.Matches.{HasLeastRanges}
use Rattle.lic_bundles.specs.declared.bundle.Bundle.{Bundle}
use Rattle.lic_search.proofs.AllMatchLemmas.{few-are, match-none, match-bundles}
use Rattle.lic_reverse.proofs.EreLemmas.{ok-changed}
use Rattle.lic_search.proofs.TemplateMatches.{known_for, required_of}
use Rattle.lic_search.proofs.all.bundles_if_few.Goals as goal

pub least_ranges-requires-clause-required : goal.least_ranges-requires-clause-required
least_ranges-requires-clause-required c =
    let other : Known = known_for c.template-template.result.now in
    let number = c.args.candidate.now.number in
    let same : (get_or c.args.set.now number other).template.parts ≡ c.parts.result.now = ap (λ t. t.parts) (sym (c.template-template.ensures other)) ∙ sym c.parts.ensures in
    required_of c.args.set.now number other c.parts.result.now (spelling_of c.args.text.now.tokens) (spelling_of c.args.view.now) c.in_ok-required.required
    (ap spelling_of (sym c.requires.text)) same c.in_ok-required.ensures.ends c.in_ok-required.ensures.rising

pub bundles_within-requires-clause-required : goal.bundles_within-requires-clause-required
bundles_within-requires-clause-required c =
    let other : Known = known_for c.template-template.result.now in
    let number = c.args.candidate.now.number in
    let same : (get_or c.args.set.now number other).template.parts ≡ c.parts-2.result.now = ap (λ t. t.parts) (sym (c.template-template.ensures other)) ∙ sym c.parts-2.ensures in
    required_of c.args.set.now number other c.parts-2.result.now (spelling_of c.args.text.now.tokens) (spelling_of c.args.view.now) c.in_ok-required.required
    (ap spelling_of (sym c.requires.text)) same c.in_ok-required.ensures.ends c.in_ok-required.ensures.rising

pub returns-then-is_empty-clause-are : goal.returns-then-is_empty-clause-are
returns-then-is_empty-clause-are c =
    let set = c.args.set.now in
    let tokens = c.args.view.now in
    let number = c.args.candidate.now.number in
    let other : Known = known_for c.template-template.result.now in
    let known : Known = get_or set number other in
    let is : slice_get set number ≡ Some known = slice_get-get_or set number other c.requires.candidate.below in
    let same : known.template.parts ≡ c.parts.result.now = ap (λ t. t.parts) (sym (c.template-template.ensures other)) ∙ sym c.parts.ensures in
    let long = c.in_ok-least.least.ok.0 in
    let none : vec_len c.in_ok-least.least ≡ 0 = eqb-true (vec_len c.in_ok-least.least) 0 (sym c.is_empty.ensures ∙ c.if-is_empty.true) in
    match-none set tokens number known is c.in_ok-least.least.items c.new.result.items
    (subst (λ parts. HasLeastRanges tokens (parts_words (map part_of parts)) c.in_ok-least.least.items) (sym same) c.in_ok-least.ensures)
    (nil_from_length c.in_ok-least.least.items (omega arith)) c.new.ensures.items

pub returns-clause-are : goal.returns-clause-are
returns-clause-are c =
    let set = c.args.set.now in
    let tokens = c.args.view.now in
    let number = c.args.candidate.now.number in
    let other : Known = known_for c.template-template.result.now in
    let known : Known = get_or set number other in
    let is : slice_get set number ≡ Some known = slice_get-get_or set number other c.requires.candidate.below in
    let same : known.template.parts ≡ c.parts-2.result.now = ap (λ t. t.parts) (sym (c.template-template.ensures other)) ∙ sym c.parts-2.ensures in
    few-are (λ (bundles : Vec Bundle Global). AreMatchBundles set tokens number bundles.items) c.bundles_within.result c.few_of.result
    (ok-changed _ _ c.bundles_within.result
    (λ (bundles : Vec Bundle Global) are. match-bundles set tokens number known is bundles.items (subst (λ parts. AreBundlesOf tokens (parts_words (map part_of parts)) number bundles.items) (sym same) are))
    c.bundles_within.ensures)
    c.few_of.ensures.same
