use Rattle.std.proofs.Common.{◌≡◌, ◌+◌, ◌-◌, ◌<◌, length, sym, ◌∙◌, subst, arith}
use Rattle.std.proofs.lemmas.List.{get_or_default}
use Rattle.lic_spans.specs.declared.span.PlaceSpan.{PlaceSpan}
use Rattle.lic_view.specs.Joined.{Extends}
use Rattle.lic_view.proofs.JoinedSpans.{keeps-last_lengthened}
use Rattle.lic_view.proofs.sets.joined.push_joined.Goals as goal

pub returns-then-extends : goal.returns-then-extends
returns-then-extends c =
    let spans = c.args.spans.now.items in
    let i = c.len-count.result - 1 in
    let last : i + 1 ≡ length spans = omega arith in
    let below : i < length spans = omega arith in
    let first : PlaceSpan = c.index.result.now in
    let before : PlaceSpan = c.index-then-extends.result.now in
    let same : first ≡ before = c.index.ensures ∙ get_or_default spans i first before below ∙ sym c.index-then-extends.ensures in
    keeps-last_lengthened c.args.keep spans i before c.args.span c.lengthened.result last c.index-then-extends.ensures
    (subst (λ b. Extends b c.args.span) same (c.extends.ensures c.if-extends.true)) c.lengthened.ensures c.requires.ordered c.requires.span
