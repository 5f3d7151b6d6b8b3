use Rattle.std.proofs.Common.{◌≡◌, ◌++◌, ◌∷◌, [], List, ℕ, ap, sym, subst, take, ◌∙◌, append_assoc}
use Rattle.std.proofs.lemmas.List.{map-append, take_more}
use Rattle.lic_lines.specs.Tokens.{Token, token_in, tokens_in}
use Rattle.lic_phrases.specs.TokenTexts.{IsTokenText}
use Rattle.lic_rewriting.specs.Taking.{HasTaken}
use Rattle.lic_tokens.proofs.ListedTokens.{one_text}
use Rattle.lic_rewriting.proofs.rewriting.Rewriting.take_all.Goals as goal

pub take_text-requires-clause-before : goal.take_text-requires-clause-before
take_text-requires-clause-before c =
    record { taken = _; has = c.loop-token.invariant.taken c.requires.before.taken c.requires.before.has }

pub take_text-requires-clause-text : goal.take_text-requires-clause-text
take_text-requires-clause-text c =
    subst IsTokenText (sym c.as_str-text.ensures)
    (one_text c.args.tokens.now c.loop-token.token-index c.token-item.result c.token-item.is c.loop-token-test.true c.requires.texts)

pub loop-token-preserved : goal.loop-token-preserved
loop-token-preserved c =
    let known = c.loop-token.invariant in
    let tokens = c.args.tokens.now in
    let i = c.loop-token.token-index in
    let token = c.token-item.result in
    let before = tokens_in (take i tokens) in
    let one = λ (text : List ℕ). let t : Token = record { text = text; start = token.start; end = token.end; after_blank = token.after_blank } in t ∷ [] in
    let more : tokens_in (take i tokens ++ token ∷ []) ≡ before ++ token_in token ∷ [] = map-append token_in (take i tokens) (token ∷ []) in
    let done = c.in_ok-take_text.ensures in record {
      taken = λ front has.
          subst (HasTaken c.take_text.new.self)
          (append_assoc front before (one c.as_str-text.result.now)
          ∙ ap (λ ts. front ++ ts) (ap (λ text. before ++ one text) c.as_str-text.ensures
          ∙ sym (ap tokens_in (take_more tokens i token c.loop-token-test.true ∙ ap (λ t. take i tokens ++ t ∷ []) (sym c.token-item.is)) ∙ more)))
          (done.taken (front ++ before) (known.taken front has));
      phrases = c.take_text.ensures.phrases ∙ known.phrases;
      emptied = done.emptied;
    }
