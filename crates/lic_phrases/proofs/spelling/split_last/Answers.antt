use Rattle.std.proofs.Common.{◌≡◌, ℕ, List, [], ◌∷◌, ◌++◌, length, reverse, sym, ap, ◌∙◌, append-nil, arith}
use Rattle.std.specs.Char.{IsScalar, encode_utf8}
use Rattle.std.specs.Str.{chars, IsUtf8}
use Rattle.std.proofs.lemmas.List.{reverse-append}
use Rattle.std.proofs.lemmas.Str.{chars-append, chars-nil, chars_past_char, IsUtf8-encode}
use Rattle.lic_phrases.proofs.spelling.split_last.Goals as goal

one_char : (c : ℕ) → IsScalar c → chars (encode_utf8 c) ≡ c ∷ []
one_char c scalar = chars_past_char (encode_utf8 c) [] c (IsUtf8-encode c scalar) (sym (append-nil (encode_utf8 c))) ∙ ap (λ x. c ∷ x) chars-nil

split : (text front : List ℕ) (c : ℕ) → IsScalar c → IsUtf8 front → text ≡ front ++ encode_utf8 c → reverse (chars text) ≡ c ∷ reverse (chars front)
split text front c scalar utf8 came =
    ap (λ x. reverse (chars x)) came ∙ ap reverse (chars-append front (encode_utf8 c) utf8 ∙ ap (λ x. chars front ++ x) (one_char c scalar))
    ∙ reverse-append (chars front) (c ∷ [])

none_left : (text : List ℕ) → length text ≡ 0 → reverse (chars text) ≡ []
none_left [] h = ap reverse chars-nil
none_left (b ∷ bs) h = absurd (omega (arith, h))

pub returns-in_err-last-clause-none : goal.returns-in_err-last-clause-none
returns-in_err-last-clause-none c =
    let none : reverse (chars c.args.text.now) ≡ [] = none_left c.args.text.now (ap length (sym c.chars-chars.ensures.rest) ∙ c.in_err-last.ensures.steps.0) in
    rw c.from_residual.ensures none

pub returns-clause-some : goal.returns-clause-some
returns-clause-some c =
    let last = c.in_ok-last.last in
    let front : List ℕ = c.as_str.result.now in
    let scalar : IsScalar last = cc in
    let came : c.args.text.now ≡ front ++ encode_utf8 last =
    sym c.chars-chars.ensures.rest ∙ c.in_ok-last.ensures.steps ∙ ap (λ r. r ++ encode_utf8 last) (sym c.as_str.ensures) in
    split c.args.text.now front last scalar c.as_str.utf8 came
