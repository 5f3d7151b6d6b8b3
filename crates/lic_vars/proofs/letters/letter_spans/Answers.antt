-- The spans of the letters of one token more.
use Rattle.std.proofs.Common.{◌<◌, ◌++◌, ◌∙◌, length, replicate, ap, arith}
use Rattle.lic_norm.specs.Tokens.{TokenValue}
use Rattle.lic_vars.proofs.LetterLemmas.{spans-instruction}
use Rattle.lic_vars.proofs.letters.letter_spans.Goals as goal

pub loop-i-preserved : goal.loop-i-preserved
loop-i-preserved c =
    let token : TokenValue = record { text = c.token-token.result.text.now; span = c.token-token.result.span } in
    let within : c.loop-i.i < length c.args.text.now.tokens = omega arith in
    spans-instruction c.args.text.now.tokens c.args.first c.loop-i.i token c.loop-i.auto.i within c.loop-i.spans.items _ c.token-token.result.text.now c.token-token.result.span
    (c.in_ok-push_times.ensures ∙ ap (λ n. c.loop-i.spans.items ++ replicate n c.token-token.result.span) c.letter_count.ensures)
    c.loop-i.invariant (c.token-token.ensures.text token) (c.token-token.ensures.span token)
