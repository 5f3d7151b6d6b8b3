-- The bundles of all spans of tokens.
use Rattle.std.proofs.Common.{◌≡◌, ◌↔◌, ap, map, subst, sym, ◌∙◌}
use Rattle.std.specs.Prelude.{All}
use Rattle.std.proofs.lemmas.List.{take_all}
use Rattle.lic_bundles.specs.Bundles.{AreApart}
use Rattle.lic_search.specs.AllMatches.{BundlesHold, IsOrdered}
use Rattle.lic_search.specs.Beginnings.{BeginsIn}
use Rattle.lic_search.proofs.BundleLemmas.{AreFirstsOf, bundle_from, bundles-exact, bundles-once, bundles-ordered}
use Rattle.lic_search.proofs.bundles.bundles_of.Goals as goal
use Rattle.lic_search.proofs.bundles.bundles_of.Goals.{After-drop-firsts-2}

bundles_are : (c : After-drop-firsts-2) → c.loop-first.bundles.items ≡ map (bundle_from c.args.template) c.in_ok-firsts.firsts.items
bundles_are c =
    c.loop-first.invariant
    ∙ ap (map (bundle_from c.args.template)) (take_all c.loop-first.first-index c.deref-first-items.result.now c.loop-first-test.false ∙ c.deref-first-items.ensures.value)

firsts_are : (c : After-drop-firsts-2) → AreFirstsOf c.args.view.now c.args.spans.now c.in_ok-firsts.firsts.items
firsts_are c = record { exact = c.in_ok-firsts.ensures.exact; ordered = c.in_ok-firsts.ensures.ordered; kinds = c.in_ok-firsts.ensures.kinds }

pub returns-clause-exact : goal.returns-clause-exact
returns-clause-exact c = λ t.
    subst (λ bundles. BundlesHold bundles t ↔ (BeginsIn c.args.view.now c.args.spans.now t.first t.last × (t.template ≡ c.args.template))) (sym (bundles_are c))
    (bundles-exact c.args.view.now c.args.spans.now c.in_ok-firsts.firsts.items c.args.template (firsts_are c) t)

pub returns-clause-ordered : goal.returns-clause-ordered
returns-clause-ordered c =
    subst (All IsOrdered) (sym (bundles_are c))
    (bundles-ordered c.args.view.now c.args.spans.now c.in_ok-firsts.firsts.items c.args.template (firsts_are c))

pub returns-clause-once : goal.returns-clause-once
returns-clause-once c =
    subst AreApart (sym (bundles_are c))
    (bundles-once c.args.view.now c.args.spans.now c.in_ok-firsts.firsts.items c.args.template (firsts_are c) c.in_ok-firsts.ensures.apart)
