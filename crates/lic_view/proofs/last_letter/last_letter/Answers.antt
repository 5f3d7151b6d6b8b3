use Rattle.std.proofs.Common.{◌≡◌, ℕ, ◌-◌, arith, List, ◌++◌, length, take, sym, ap, ◌∙◌, rules}
use Rattle.std.specs.Char.{IsScalar, encode_utf8}
use Rattle.std.proofs.lemmas.Bool.{true≢false}
use Rattle.lic_view.proofs.LastLetters.{letter-end, letter-found, letter-none}
use Rattle.lic_view.proofs.last_letter.last_letter.Goals as goal

pub returns-then-not-is_char_boundary : goal.returns-then-not-is_char_boundary
returns-then-not-is_char_boundary c = λ p d is.
    let whole = letter-end c.args.text.now c.args.place p d c.utf8.text is in
    true≢false (sym (c.is_char_boundary.ensures.test.1 whole) ∙ c.if-not-is_char_boundary.true)

pub returns-in_err-letter : goal.returns-in_err-letter
returns-in_err-letter c =
    let text = c.args.text.now in
    let all : c.args.place - 0 ≡ c.args.place = omega arith in
    let value : c.range.result.now ≡ take c.args.place text = c.range.ensures.value ∙ ap (λ n. take n text) all in
    let none : length (take c.args.place text) ≡ 0 = ap length (sym value) ∙ ap length (sym c.chars-letters.ensures.rest) ∙ c.in_err-letter.ensures.steps.0 in
    rw c.from_residual.ensures (λ p d is. letter-none text c.args.place p d none is)

pub returns : goal.returns
returns c =
    let text = c.args.text.now in
    let letter = c.in_ok-letter.letter in
    let scalar : IsScalar letter = search (rules) in
    let front : List ℕ = c.as_str.result.now in
    let all : c.args.place - 0 ≡ c.args.place = omega arith in
    let value : c.range.result.now ≡ take c.args.place text = c.range.ensures.value ∙ ap (λ n. take n text) all in
    let came : take c.args.place text ≡ front ++ encode_utf8 letter =
    sym value ∙ sym c.chars-letters.ensures.rest ∙ c.in_ok-letter.ensures.steps ∙ ap (λ r. r ++ encode_utf8 letter) (sym c.as_str.ensures) in
    letter-found text front c.args.place letter (c.is_char_boundary.ensures.test.0 c.if-not-is_char_boundary.false).0 scalar came
