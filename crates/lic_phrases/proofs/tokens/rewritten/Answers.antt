use Rattle.std.proofs.Common.{[], map, length, sym, subst, rules}
use Rattle.lic_lines.specs.Tokens.{tokens_in}
use Rattle.lic_phrases.specs.Settling.{Settles}
use Rattle.lic_phrases.specs.Waiting.{spanned_in, AreKnown}
use Rattle.lic_phrases.proofs.SettlingLemmas.{Settles-new}
use Rattle.lic_phrases.proofs.tokens.rewritten.Goals as goal

pub take_tokens-requires : goal.take_tokens-requires
take_tokens-requires c =
    let p = c.args.phrases.now in
    record {
      settles = subst (λ l. Settles p.phrases [] (map (spanned_in p.spellings) l) c.new-rewriter.result) (sym c.new-settled.ensures.items)
          (subst (λ k. Settles p.phrases [] [] k) (sym c.new-rewriter.ensures) (Settles-new p.phrases));
      known = subst (AreKnown (length p.spellings)) (sym c.new-settled.ensures.items) (search rules);
    }

pub returns-clause-rewritten : goal.returns-clause-rewritten
returns-clause-rewritten c = c.in_ok-finish.ensures.whole [] (tokens_in c.args.tokens.items) c.in_ok-take_tokens.ensures.settles

pub returns-clause-known : goal.returns-clause-known
returns-clause-known c = c.in_ok-finish.ensures.known c.in_ok-take_tokens.ensures.known
