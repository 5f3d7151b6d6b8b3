-- Nothing is kept back, and the token is left as it is.
use Rattle.std.proofs.Common.{◌++◌, ◌∷◌, [], sym, subst}
use Rattle.lic_phrases.specs.Rewriting.{spanned}
use Rattle.lic_phrases.specs.Settling.{Settles}
use Rattle.lic_phrases.proofs.rewriter.Rewriter.lets_pass.Goals as goal

pub returns-then-keeps_none : goal.returns-then-keeps_none
returns-then-keeps_none c = λ yes settled taken token text before.
    let words = c.args.phrases.now.phrases in
    let kept = c.keeps_none.ensures c.if-keeps_none.true in
    subst (Settles words (taken ++ token ∷ []) (settled ++ spanned token ∷ [])) (sym kept)
    (c.leaves.ensures yes settled taken token text (subst (Settles words taken settled) kept before))
