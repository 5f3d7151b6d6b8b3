-- One token more, and then all.
use Rattle.std.proofs.Common.{◌≡◌, ◌+◌, List, [], ◌∷◌, ◌++◌, length, sym, subst, arith}
use Rattle.lic_spans.specs.declared.span.PlaceSpan.{PlaceSpan}
use Rattle.lic_search.proofs.MatchLists.{AreEnds, AreEnds-all, AreEnds-placed, AreEnds-push}
use Rattle.lic_search.proofs.matches.token_ends.Goals as goal

pub loop-last-preserved : goal.loop-last-preserved
loop-last-preserved c =
    let tokens = c.args.view.now in
    let items : c.push.new.self.items ≡ c.loop-last.ends.items ++ c.token_end.result ∷ [] = c.in_ok-push.ensures.items in
    subst (AreEnds tokens (c.loop-last.last + 1)) (sym {A = List PlaceSpan} items)
    (AreEnds-push tokens c.loop-last.last c.loop-last.ends.items c.token_end.result c.loop-last.invariant c.token_end.ensures)

pub returns-clause-placed : goal.returns-clause-placed
returns-clause-placed c =
    let tokens = c.args.view.now in
    let all : c.loop-last.last ≡ length tokens = omega (arith, c.loop-last.auto.last-end) in
    AreEnds-placed tokens c.loop-last.ends.items (subst (λ n. AreEnds tokens n c.loop-last.ends.items) all c.loop-last.invariant)

pub returns-clause-all : goal.returns-clause-all
returns-clause-all c = λ p last.
    let tokens = c.args.view.now in
    let all : c.loop-last.last ≡ length tokens = omega (arith, c.loop-last.auto.last-end) in
    AreEnds-all tokens c.loop-last.ends.items p last (subst (λ n. AreEnds tokens n c.loop-last.ends.items) all c.loop-last.invariant)
