-- What the sign that is kept becomes with the next token.
use Rattle.std.proofs.Common.{◌∷◌, ◌++◌, ◌∙◌, sym, ap}
use Rattle.lic_lines.specs.Tokens.{token_in}
use Rattle.lic_phrases.specs.Held.{held}
use Rattle.lic_phrases.specs.Rewriting.{sign_sequences}
use Rattle.lic_phrases.proofs.SignLemmas.{sign_sequences-merge, sign_sequences-settled}
use Rattle.lic_phrases.proofs.rewriter.sign_sequences.join_sign.Goals as goal

pub returns-in-Some-clause-joined : goal.returns-in-Some-clause-joined
returns-in-Some-clause-joined c = λ joins rest.
    ap (λ o. sign_sequences (held o ++ token_in c.args.next.now ∷ rest)) c.in-Some.is
    ∙ sign_sequences-merge (token_in c.in-Some.sequence) (token_in c.args.next.now) rest (sym c.are_signs.ensures ∙ c.if-are_signs.true)

pub returns-in_default-clause-apart : goal.returns-in_default-clause-apart
returns-in_default-clause-apart c = λ parted. (
  sym c.in-Some.is,
  λ rest.
      ap (λ o. sign_sequences (held o ++ token_in c.args.next.now ∷ rest)) c.in-Some.is
      ∙ sign_sequences-settled (token_in c.in-Some.sequence) (token_in c.args.next.now) rest (sym c.are_signs.ensures ∙ c.if-are_signs.false)
      ∙ ap (λ o. held o ++ sign_sequences (token_in c.args.next.now ∷ rest)) (sym c.in-Some.is),
)
