use Rattle.std.proofs.Common.{◌++◌, ◌∷◌, [], map, ap, sym, subst, ◌∙◌}
use Rattle.lic_lines.specs.Tokens.{token_in}
use Rattle.lic_phrases.specs.Settling.{Settles}
use Rattle.lic_phrases.specs.Waiting.{spanned_in}
use Rattle.lic_tokens.specs.Tokens.{AreTokenTexts, reported}
use Rattle.std.proofs.lemmas.List.Elements.{All-push}
use Rattle.lic_phrases.specs.TokenTexts.{IsTokenText}
use Rattle.lic_tokens.proofs.ListedTokens.{listed-more, nothing_waits}
use Rattle.lic_rewriting.proofs.TokenTexts.{settled-texts}
use Rattle.lic_rewriting.proofs.rewriting.Rewriting.push.Goals as goal

pub extend-requires-clause-texts : goal.extend-requires-clause-texts
extend-requires-clause-texts c =
    let self = c.args.self.now in
    let words = self.phrases.now.phrases in
    let texts = map (spanned_in self.phrases.now.spellings) in
    let taken = c.requires.before.taken in
    let has = c.requires.before.has in
    let none = nothing_waits self.phrases.now.spellings has.settled self.settled.items c.requires.emptied in
    subst (λ l. AreTokenTexts (map reported (texts l))) (sym c.deref.ensures.value)
    (settled-texts words (taken ++ token_in c.args.token ∷ []) has.settled (texts c.push.new.output.items) c.push.new.self has.known
    (All-push (λ t. IsTokenText t.text) taken (token_in c.args.token) has.texts c.requires.text)
    (c.in_ok-push.ensures.settles has.settled taken (subst (λ l. Settles words taken l self.rewriter) (sym none) has.settles)))

pub returns-clause-taken : goal.returns-clause-taken
returns-clause-taken c = λ taken has.
    let self = c.args.self.now in
    let words = self.phrases.now.phrases in
    let texts = map (spanned_in self.phrases.now.spellings) in
    let given = texts c.push.new.output.items in
    let none = nothing_waits self.phrases.now.spellings has.settled self.settled.items c.requires.emptied in
    record {
      settled = has.settled ++ given;
      settles = c.in_ok-push.ensures.settles has.settled taken (subst (λ l. Settles words taken l self.rewriter) (sym none) has.settles);
      listed = listed-more has.settled given self.tokens _ has.listed
          (c.in_ok-extend.ensures ∙ ap (λ l. self.tokens ++ map reported (texts l)) c.deref.ensures.value);
      known = has.known;
      texts = All-push (λ t. IsTokenText t.text) taken (token_in c.args.token) has.texts c.requires.text;
    }
