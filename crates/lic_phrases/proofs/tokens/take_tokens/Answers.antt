-- One token more, and the end.
use Rattle.std.proofs.Common.{◌∷◌, ◌∙◌, [], map, sym, subst}
use Rattle.std.proofs.lemmas.Iterator.Adapters.{YieldsList-from_vec}
use Rattle.std.proofs.lemmas.Iterator.Consumers.{YieldsList-end}
use Rattle.std.proofs.lemmas.List.{map-append}
use Rattle.lic_lines.specs.Tokens.{token_in, tokens_in}
use Rattle.lic_phrases.specs.Settling.{Settles}
use Rattle.lic_phrases.specs.Waiting.{spanned_in}
use Rattle.lic_phrases.proofs.SpellingLemmas.{map-itself}
use Rattle.lic_phrases.proofs.tokens.take_tokens.Goals as goal

pub loop-token-preserved : goal.loop-token-preserved
loop-token-preserved c =
    let p = c.args.phrases.now in
    let yielded = c.loop-token.yielded in
    let step = c.in_ok-push.ensures.settles [] (tokens_in yielded) c.loop-token.invariant.settles in
    record {
      settles = subst (λ ts. Settles p.phrases ts (map (spanned_in p.spellings) c.push.new.output.items) c.push.new.self)
          (sym (map-append token_in yielded (c.in-Some.token ∷ []))) step;
      known = c.in_ok-push.ensures.known c.loop-token.invariant.known;
    }

pub returns-clause-settles : goal.returns-clause-settles
returns-clause-settles c =
    let p = c.args.phrases.now in
    let given = c.into_iter-token-iterator.ensures.into_iter_gives in
    let yielded = c.loop-token.yielded in
    let all = YieldsList-end (YieldsList-from_vec {s = c.into_iter-token-iterator.result} c.args.tokens.items given.0
    (given.1 ∙ c.args.tokens.ok.0)) yielded c.loop-token.token-iterator c.loop-token.yielded_by c.next.result c.next.new.self c.in-None.is c.next.ensures.steps in
    subst (λ l. Settles p.phrases (tokens_in l) (map (spanned_in p.spellings) c.loop-token.settled.items) c.loop-token.rewriter)
    (sym (map-itself yielded) ∙ all.0) c.loop-token.invariant.settles
