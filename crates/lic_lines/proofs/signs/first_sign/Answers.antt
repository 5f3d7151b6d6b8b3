use Rattle.std.proofs.Common.{◌∙◌, ap, sym, arith}
use Rattle.std.specs.Prelude.{codes}
use Rattle.lic_lines.specs.Tokens.{is_text, as_sign, token_in}
use Rattle.lic_lines.proofs.PlainSigns.{plain_step}
use Rattle.lic_lines.proofs.signs.first_sign.Goals as goal

pub loop-at-preserved : goal.loop-at-preserved
loop-at-preserved c =
    let token = c.index-tokens-at.result in
    let is = c.index-tokens-at.is in
    let off = c.if-not-may_begin_sign.true in
    record {
      after = omega arith;
      within = omega arith;
      plain =
          plain_step c.args.tokens.now c.loop-at.at token c.loop-at-test.true
          (ap (λ t. is_text (codes "(") (token_in t)) (sym is) ∙ c.may_begin_sign.ensures.parenthesis off)
          (ap (λ t. as_sign (token_in t)) (sym is) ∙ c.may_begin_sign.ensures.sign off ∙ ap token_in is)
          ∙ c.loop-at.invariant.plain;
    }
