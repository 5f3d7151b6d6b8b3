use Rattle.std.proofs.Common.{refl, sym, subst, arith, inl}
use Rattle.lic_kind.specs.LineRules.{rules_of}
use Rattle.lic_phrases.specs.TokenTexts.{HaveTokenTexts}
use Rattle.lic_rewriting.specs.Taking.{HasTaken}
use Rattle.lic_norm.proofs.FirstLines.{first_tokens_of-none}
use Rattle.lic_norm.proofs.reader.Reader.new.Goals as goal

pub new-requires-clause-texts : goal.new-requires-clause-texts
new-requires-clause-texts c = subst HaveTokenTexts (sym c.phrases.ensures) c.spellings_are_token_texts.ensures

pub returns-clause-read : goal.returns-clause-read
returns-clause-read c = record {
  within = omega arith;
  lines = inl refl;
  taken = subst (HasTaken c.new.result) (sym (first_tokens_of-none (rules_of c.args.rules.now) 0)) c.new.ensures.taken;
}
