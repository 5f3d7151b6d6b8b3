use Rattle.std.proofs.Common.{ℕ, List, [], None, ap, ap₂, ◌∙◌}
use Rattle.lic_kind.specs.LineRules.{LineRules, rules_of}
use Rattle.lic_norm.specs.Feeding.{FeederValue}
use Rattle.lic_tokens.specs.Tokens.{TokenValue}
use Rattle.lic_norm.proofs.feeder.Feeder.reuse.Goals as goal

pub returns : goal.returns
returns c =
    let seen : LineRules → List ℕ → List TokenValue → FeederValue =
    λ rules bytes tokens. record {
      bytes = bytes;
      words = c.args.words.now;
      rules = rules;
      tokens =
          tokens;
      refused = None;
    } in
    ap₂ (seen (rules_of c.into_reader.result.rules.now))
    c.into_reader.ensures.source c.into_reader.ensures.tokens
    ∙ ap (λ r. seen (rules_of r) [] []) c.into_reader.ensures.rules
