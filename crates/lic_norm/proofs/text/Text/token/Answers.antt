use Rattle.std.proofs.Common.{◌≡◌, ◌<◌, ◌≤◌, length, get_or, [], ap, sym, subst, arith}
use Rattle.lic_tokens.specs.Tokens.{TokenValue}
use Rattle.lic_norm.specs.Spans.{IsTokenText}
use Rattle.lic_norm.proofs.TokenSpans.{AreRising-at}
use Rattle.lic_norm.proofs.text.Text.token.Goals as goal

abbrev nothing : TokenValue
nothing = record { text = []; span = record { start = 0; end = 0 } }

pub returns-clause-word : goal.returns-clause-word
returns-clause-word c =
    let lt : c.args.i < length c.self.inside.tokens = omega (arith, c.requires, ap (λ t. length t.tokens) c.self.view_is) in
    subst IsTokenText (sym (c.get.ensures.text nothing)) (c.self.invariant.1 c.args.i nothing lt)

pub returns-clause-order : goal.returns-clause-order
returns-clause-order c =
    let lt : c.args.i < length c.self.inside.tokens = omega (arith, c.requires, ap (λ t. length t.tokens) c.self.view_is) in
    subst (λ span. span.start < span.end) (sym (c.get.ensures.span nothing)) (AreRising-at 0 c.self.inside.tokens c.args.i nothing c.self.invariant.0.rising lt)

pub returns-clause-within : goal.returns-clause-within
returns-clause-within c =
    let lt : c.args.i < length c.self.inside.tokens = omega (arith, c.requires, ap (λ t. length t.tokens) c.self.view_is) in
    let same : length c.self.inside.source.items ≡ length c.args.self.now.source = ap (λ t. length t.source) c.self.view_is in
    let within : (get_or c.self.inside.tokens c.args.i nothing).span.end ≤ length c.self.inside.source.items = c.self.invariant.0.within c.args.i nothing lt in
    let is : c.get.result.span.end ≡ (get_or c.self.inside.tokens c.args.i nothing).span.end = ap (λ span. span.end) (c.get.ensures.span nothing) in
    omega arith
