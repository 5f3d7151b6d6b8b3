-- One token more, or the first one that ends after the place.
use Rattle.std.proofs.Common.{◌≡◌, ◌+◌, ◌<◌, List, [], ◌∷◌, ◌++◌, sym, subst, arith}
use Rattle.lic_norm.specs.Places.{place_end}
use Rattle.lic_spans.specs.declared.span.PlaceSpan.{PlaceSpan}
use Rattle.lic_search.specs.Ends.{AddsEnds}
use Rattle.lic_view.proofs.ViewPlaces.{ends-order}
use Rattle.lic_search.proofs.EndLists.{adds-push}
use Rattle.lic_search.proofs.ends.add_ends.Goals as goal

pub loop-token-preserved : goal.loop-token-preserved
loop-token-preserved c =
    let tokens = c.args.view.now in
    let items : c.push.new.self.items ≡ c.loop-token.ends.items ++ c.token_end.result ∷ [] = c.in_ok-push.ensures.items in
    subst (AddsEnds tokens c.args.first (c.loop-token.token + 1) c.args.ends.now.items) (sym {A = List PlaceSpan} items)
    (adds-push tokens c.args.first c.loop-token.token c.args.ends.now.items c.loop-token.ends.items c.token_end.result (omega (arith, c.loop-token-test.true, c.len-token-end.ensures))
    c.loop-token.invariant c.token_end.ensures)

pub returns-then-end-place-clause-after : goal.returns-then-end-place-clause-after
returns-then-end-place-clause-after c = λ last from within.
    let here : c.args.place < place_end c.args.view.now c.loop-token.token = omega (arith, c.end.ensures, c.if-end-place.true) in
    let order = ends-order c.args.view.now c.loop-token.token last c.tokens_have_texts.ensures from within in
    omega arith
