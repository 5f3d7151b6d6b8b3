use Rattle.std.proofs.Common.{◌++◌, ◌∷◌, [], List, sym}
use Rattle.std.proofs.lemmas.Result.{on_ok_weaker}
use Rattle.lic_lines.specs.Tokens.{Token}
use Rattle.lic_phrases.specs.Rewriting.{SpannedText, spanned}
use Rattle.std.proofs.lemmas.List.Elements.{All-push}
use Rattle.lic_phrases.specs.TokenTexts.{IsTokenText}
use Rattle.lic_tokens.proofs.ListedTokens.{listed-more}
use Rattle.lic_rewriting.proofs.rewriting.Rewriting.take_text.Goals as goal

pub returns-then-lets_pass-clause-taken : goal.returns-then-lets_pass-clause-taken
returns-then-lets_pass-clause-taken c =
    let self = c.args.self.now in
    let token : Token = record { text = c.args.text.now; start = c.args.start; end = c.args.end; after_blank = c.args.after_blank } in
    let one : List SpannedText = spanned token ∷ [] in
    on_ok_weaker c.push.result
    (λ added. λ taken has. record {
      settled = has.settled ++ one;
      settles = c.lets_pass.ensures c.if-lets_pass.true has.settled taken token (sym c.as_bytes.ensures.value) has.settles;
      listed = listed-more has.settled one self.tokens c.push.new.self has.listed added;
      known = has.known;
      texts = All-push (λ t. IsTokenText t.text) taken token has.texts c.requires.text;
    })
    c.push.ensures
