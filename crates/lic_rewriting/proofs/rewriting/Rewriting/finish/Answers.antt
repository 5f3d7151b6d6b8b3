use Rattle.std.proofs.Common.{◌++◌, [], map, ap, sym, subst, ◌∙◌, append-nil}
use Rattle.lic_phrases.specs.Settling.{Settles}
use Rattle.lic_phrases.specs.Waiting.{spanned_in}
use Rattle.lic_tokens.specs.Tokens.{AreTokenTexts, reported}
use Rattle.lic_tokens.proofs.ListedTokens.{listed-more, nothing_waits}
use Rattle.lic_rewriting.proofs.TokenTexts.{given-texts}
use Rattle.lic_rewriting.proofs.rewriting.Rewriting.finish.Goals as goal

pub extend-requires-clause-texts : goal.extend-requires-clause-texts
extend-requires-clause-texts c =
    let self = c.args.self in
    let words = self.phrases.now.phrases in
    let texts = map (spanned_in self.phrases.now.spellings) in
    let taken = c.requires.taken in
    let has = c.requires.has in
    let none = nothing_waits self.phrases.now.spellings has.settled c.clear.new.self.items c.clear.ensures.items in
    let given = texts c.finish.new.output.items in
    let whole = c.in_ok-finish.ensures.whole has.settled taken (subst (λ l. Settles words taken l self.rewriter) (sym none) has.settles) in
    subst (λ l. AreTokenTexts (map reported (texts l))) (sym c.deref.ensures.value)
    (given-texts words taken has.settled given [] has.known has.texts (sym whole ∙ sym (append-nil (has.settled ++ given))))

pub returns : goal.returns
returns c = λ taken has.
    let self = c.args.self in
    let texts = map (spanned_in self.phrases.now.spellings) in
    let none = nothing_waits self.phrases.now.spellings has.settled c.clear.new.self.items c.clear.ensures.items in
    let whole = c.in_ok-finish.ensures.whole has.settled taken (subst (λ l. Settles self.phrases.now.phrases taken l self.rewriter) (sym none) has.settles) in
    listed-more has.settled (texts c.finish.new.output.items) self.tokens _ has.listed
    (c.in_ok-extend.ensures ∙ ap (λ l. self.tokens ++ map reported (texts l)) c.deref.ensures.value)
    ∙ ap (map reported) whole
