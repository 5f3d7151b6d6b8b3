-- Tokens of lines that are taken in turn.
use Rattle.std.proofs.Common.{◌≡◌, ℕ, List, [], ◌∷◌, ◌++◌, drop, refl, sym, ap, subst, ◌∙◌, append_assoc, append-nil}
use Rattle.std.proofs.lemmas.List.Elements.{All-push}
use Rattle.lic_lines.specs.Tokens.{Token, single_signs}
use Rattle.lic_phrases.specs.Rewriting.{SpannedText, spanned}
use Rattle.lic_phrases.specs.Settling.{Settles, nothing_kept}
use Rattle.lic_phrases.specs.TokenTexts.{IsTokenText}
use Rattle.lic_rewriting.specs.Taking.{HasTaken, HasTakenUpTo}
use Rattle.lic_tokens.specs.Tokens.{TokenValue, reported}
use Rattle.lic_rewriting.specs.declared.rewriting.Rewriting.{Rewriting}
use Rattle.lic_tokens.proofs.ListedTokens.{listed-more}

pub none_taken : (tokens : List Token) (i : ℕ) (rewriting : Rewriting) → HasTakenUpTo tokens i i rewriting rewriting
none_taken tokens i rewriting = λ taken has. ([], subst (HasTaken rewriting) (sym (append-nil taken)) has, refl)

pub one_taken : (tokens : List Token) (i next : ℕ) (before after : Rewriting) (token : Token)
    → ((taken : List Token) → HasTaken before taken → HasTaken after (taken ++ token ∷ []))
    → token ∷ single_signs (drop next tokens) ≡ single_signs (drop i tokens) → HasTakenUpTo tokens i next before after
one_taken tokens i next before after token step first = λ taken has. (token ∷ [], step taken has, first)

pub taken_in_turn : (tokens : List Token) (i j k : ℕ) (before between after : Rewriting) → HasTakenUpTo tokens i j before between
    → HasTakenUpTo tokens j k between after → HasTakenUpTo tokens i k before after
taken_in_turn tokens i j k before between after first second = λ taken has.
    let one = first taken has in
    let two = second (taken ++ one.0) one.1 in (
      one.0 ++ two.0,
      subst (HasTaken after) (append_assoc taken one.0 two.0) two.1,
      append_assoc one.0 two.0 (single_signs (drop k tokens)) ∙ ap (λ l. one.0 ++ l) two.2 ∙ one.2,
    )

-- a token that is left as it is, where none is kept back
pub token_left : (before : Rewriting) (tokens : List TokenValue) (token : Token) → before.rewriter ≡ nothing_kept
    → tokens ≡ before.tokens ++ reported (spanned token) ∷ [] → IsTokenText token.text
    → ((settled : List SpannedText) (taken : List Token) → Settles before.phrases.now.phrases taken settled nothing_kept
    → Settles before.phrases.now.phrases (taken ++ token ∷ []) (settled ++ spanned token ∷ []) nothing_kept)
    → (taken : List Token) → HasTaken before taken → HasTaken (record before { tokens = tokens }) (taken ++ token ∷ [])
token_left before tokens token none added text leaves = λ taken has.
    let words = before.phrases.now.phrases in
    let one : List SpannedText = spanned token ∷ [] in record {
      settled = has.settled ++ one;
      settles = subst (Settles words (taken ++ token ∷ []) (has.settled ++ one)) (sym none)
          (leaves has.settled taken (subst (Settles words taken has.settled) none has.settles));
      listed = listed-more has.settled one before.tokens tokens has.listed added;
      known = has.known;
      texts = All-push (λ t. IsTokenText t.text) taken token has.texts text;
    }
