use Rattle.std.proofs.Common.{◌∙◌, ◌++◌, sym, subst, ap, drop}
use Rattle.lic_kind.specs.LineRules.{rules_of}
use Rattle.lic_lines.specs.Tokens.{tokens_in, text_tokens_after}
use Rattle.lic_tokens.specs.Tokens.{HaveTexts}
use Rattle.lic_rewriting.proofs.TokenTexts.{after-texts, front-texts}
use Rattle.lic_rewriting.proofs.rewriting.Rewriting.take_front.Goals as goal

pub take_all-requires-clause-texts : goal.take_all-requires-clause-texts
take_all-requires-clause-texts c =
    let part = c.in_ok-part.part in
    let rest = text_tokens_after (rules_of c.args.rules.now) part.blank_after (drop part.length c.args.text.now) in
    subst (λ l. HaveTexts (tokens_in l)) (sym c.deref.ensures.value)
    (front-texts _ rest
    (subst HaveTexts (sym c.in_ok-part.ensures.tokens) (after-texts (rules_of c.args.rules.now) c.args.after_blank c.args.text.now)))

pub returns-clause-taken : goal.returns-clause-taken
returns-clause-taken c = λ taken has.
    let part = c.in_ok-part.part in
    let rest = text_tokens_after (rules_of c.args.rules.now) part.blank_after (drop part.length c.args.text.now) in (
      tokens_in c.deref.result.now,
      c.in_ok-take_all.ensures.taken taken has,
      ap (λ l. tokens_in l ++ rest) c.deref.ensures.value ∙ c.in_ok-part.ensures.tokens,
    )
