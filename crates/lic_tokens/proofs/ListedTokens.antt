-- Tokens that are taken and listed, and their texts.
use Rattle.std.proofs.Common.{◌≡◌, ℕ, zero, suc, ◌<◌, List, [], ◌∷◌, ◌++◌, map, length, get_or, sym, ap, subst, ◌∙◌, append-nil, arith}
use Rattle.std.proofs.lemmas.List.{map-append}
use Rattle.std.proofs.lemmas.List.Elements.{All-head, All-tail}
use Rattle.lic_lines.specs.Tokens.{small_bytes, token_in, tokens_in}
use Rattle.lic_lines.specs.declared.tokens.FirstToken.{FirstToken}
use Rattle.lic_phrases.specs.Rewriting.{SpannedText}
use Rattle.lic_phrases.specs.TokenTexts.{IsTokenText}
use Rattle.lic_phrases.specs.Waiting.{spanned_in, text_in}
use Rattle.lic_phrases.specs.declared.final_token.FinalToken.{FinalToken}
use Rattle.lic_tokens.specs.Tokens.{AreTokenTexts, HaveTexts, TokenValue, reported}

-- more tokens are settled
pub listed-more : (before given : List SpannedText) (tokens tokens' : List TokenValue) → tokens ≡ map reported before
    → tokens' ≡ tokens ++ map reported given → tokens' ≡ map reported (before ++ given)
listed-more before given tokens tokens' listed more = more ∙ ap (λ l. l ++ map reported given) listed ∙ sym (map-append reported before given)

-- after what is settled nothing waits to be listed
pub nothing_waits : (spellings : List (List ℕ)) (settled : List SpannedText) (output : List FinalToken) → output ≡ []
    → settled ++ map (spanned_in spellings) output ≡ settled
nothing_waits spellings settled output none = ap (λ l. settled ++ map (spanned_in spellings) l) none ∙ append-nil settled

-- the text of one of the tokens that the rewriting gives
pub given_text : (spellings : List (List ℕ)) (given : List FinalToken) (i : ℕ) (token : FinalToken) → token ≡ get_or given i token
    → i < length given → AreTokenTexts (map reported (map (spanned_in spellings) given)) → IsTokenText (text_in spellings token.text)
given_text spellings [] i token is inside texts = absurd (omega arith)
given_text spellings (t ∷ given) zero token is inside texts =
    subst (λ (u : FinalToken). IsTokenText (text_in spellings u.text)) (sym is)
    (All-head (λ u. IsTokenText u.text) (reported (spanned_in spellings t)) (map reported (map (spanned_in spellings) given)) texts)
given_text spellings (t ∷ given) (suc i) token is inside texts =
    given_text spellings given i token is (omega arith)
    (All-tail (λ u. IsTokenText u.text) (reported (spanned_in spellings t)) (map reported (map (spanned_in spellings) given)) texts)

-- the text of one of the first tokens
pub one_text : (tokens : List FirstToken) (i : ℕ) (token : FirstToken) → token ≡ get_or tokens i token → i < length tokens
    → HaveTexts (tokens_in tokens) → IsTokenText (small_bytes token.text)
one_text [] i token is inside texts = absurd (omega arith)
one_text (t ∷ tokens) zero token is inside texts =
    subst (λ (u : FirstToken). IsTokenText (small_bytes u.text)) (sym is)
    (All-head (λ u. IsTokenText u.text) (token_in t) (tokens_in tokens) texts)
one_text (t ∷ tokens) (suc i) token is inside texts =
    one_text tokens i token is (omega arith) (All-tail (λ u. IsTokenText u.text) (token_in t) (tokens_in tokens) texts)
