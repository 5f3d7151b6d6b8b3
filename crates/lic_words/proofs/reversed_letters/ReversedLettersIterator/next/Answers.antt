use Rattle.std.proofs.Common.{◌≡◌, false, ◌++◌, ◌∷◌, ◌&&◌, ℕ, List, length, [], reverse, refl, sym, ap, ◌∙◌, arith}
use Rattle.std.specs.Char.{IsScalar, encode_utf8}
use Rattle.std.specs.Str.{chars}
use Rattle.std.proofs.lemmas.Str.{IsUtf8-from_is_utf8, is_utf8-from_IsUtf8}
use Rattle.lic_words.specs.Letters.{is_word}
use Rattle.lic_words.specs.Spelling.{Gap, gap_of, gapped_from}
use Rattle.lic_words.specs.Reading.{reversed_letters_left}
use Rattle.lic_words.proofs.ReadLetters.{none_left}
use Rattle.lic_words.proofs.ReadTurned.{reversed_tokens-letters-blank, reversed_tokens-last-blank, reversed_tokens-letters-letter, reversed_tokens-last-letter}
use Rattle.lic_words.proofs.reversed_letters.ReversedLettersIterator.next.Goals as goal

pub loop-letter-init : goal.loop-letter-init
loop-letter-init c = record {
  text = IsUtf8-from_is_utf8 c.args.self.now.rest.now c.args.self.now.text;
  letters = refl;
  last = refl;
}

pub returns-in_err-letter-clause-steps : goal.returns-in_err-letter-clause-steps
returns-in_err-letter-clause-steps c =
    let inv = c.loop-letter.invariant in
    let last = c.loop-letter.self.last in
    let apart = c.loop-letter.self.is_apart in
    let rest : List ℕ = c.loop-letter.self.rest.now in
    let none : chars rest ≡ [] = none_left rest (ap length (sym c.chars-chars.ensures.rest) ∙ c.in_err-letter.ensures.steps.0) in
    let left : reversed_letters_left c.loop-letter.self ≡ [] = ap (λ cs. gapped_from last apart (reverse cs)) none in
    rw c.from_residual.ensures record { first = (sym inv.letters ∙ left, left); last = inv.last }

pub returns-then-letter-ne32-clause-steps : goal.returns-then-letter-ne32-clause-steps
returns-then-letter-ne32-clause-steps c =
    let inv = c.loop-letter.invariant in
    let last = c.loop-letter.self.last in
    let apart = c.loop-letter.self.is_apart in
    let letter = c.in_ok-letter.letter in
    let bs : List ℕ = c.loop-letter.self.rest.now in
    let front : List ℕ = c.as_str-self.result.now in
    let scalar : IsScalar letter = cc in
    let came : bs ≡ front ++ encode_utf8 letter =
    sym c.chars-chars.ensures.rest ∙ c.in_ok-letter.ensures.steps ∙ ap (λ r. r ++ encode_utf8 letter) (sym c.as_str-self.ensures) in
    let words : (is_word last && is_word letter) ≡ (c.is_word.result && c.is_word-then-letter-ne32.result) =
    rw (c.is_word.ensures, c.is_word-then-letter-ne32.ensures) refl in
    let given : reversed_letters_left c.args.self.now
    ≡ (gap_of apart (c.is_word.result && c.is_word-then-letter-ne32.result), letter)
    ∷ gapped_from letter false (reverse (chars front)) =
    sym inv.letters ∙ reversed_tokens-letters-letter last apart bs front letter scalar c.as_str-self.utf8 came c.if-letter-ne32.true
    ∙ ap {B = List (Gap × ℕ)} (λ b. (gap_of apart b, letter) ∷ gapped_from letter false (reverse (chars front))) words in
    record {
      first = given;
      last = sym (reversed_tokens-last-letter last apart bs front letter scalar c.as_str-self.utf8 came c.if-letter-ne32.true) ∙ inv.last;
    }

pub returns-then-letter-ne32-clause-goes : goal.returns-then-letter-ne32-clause-goes
returns-then-letter-ne32-clause-goes c =
    let inv = c.loop-letter.invariant in
    let letter = c.in_ok-letter.letter in
    let bs : List ℕ = c.loop-letter.self.rest.now in
    let front : List ℕ = c.as_str-self.result.now in
    let scalar : IsScalar letter = cc in
    let came : bs ≡ front ++ encode_utf8 letter =
    sym c.chars-chars.ensures.rest ∙ c.in_ok-letter.ensures.steps ∙ ap (λ r. r ++ encode_utf8 letter) (sym c.as_str-self.ensures) in
    let given = ap length (sym inv.letters
    ∙ reversed_tokens-letters-letter c.loop-letter.self.last c.loop-letter.self.is_apart bs front letter scalar c.as_str-self.utf8 came c.if-letter-ne32.true) in
    record { on = λ _. (tt, tt, omega (arith, given)); keeps = tt; rests = λ _. tt }

pub loop-letter-preserved : goal.loop-letter-preserved
loop-letter-preserved c =
    let inv = c.loop-letter.invariant in
    let last = c.loop-letter.self.last in
    let apart = c.loop-letter.self.is_apart in
    let letter = c.in_ok-letter.letter in
    let bs : List ℕ = c.loop-letter.self.rest.now in
    let front : List ℕ = c.as_str-self.result.now in
    let scalar : IsScalar letter = cc in
    let came : bs ≡ front ++ encode_utf8 letter =
    sym c.chars-chars.ensures.rest ∙ c.in_ok-letter.ensures.steps ∙ ap (λ r. r ++ encode_utf8 letter) (sym c.as_str-self.ensures) in
    record {
      text = c.as_str-self.utf8;
      letters = sym (reversed_tokens-letters-blank last apart bs front letter scalar c.as_str-self.utf8 came c.if-letter-ne32.false) ∙ inv.letters;
      last = sym (reversed_tokens-last-blank last apart bs front letter scalar c.as_str-self.utf8 came c.if-letter-ne32.false) ∙ inv.last;
    }

pub invariant_of-self : goal.invariant_of-self
invariant_of-self c = record { text = is_utf8-from_IsUtf8 c.as_str-self.result.now c.as_str-self.utf8 }

pub invariant_of-self-in-loop-letter : goal.invariant_of-self-in-loop-letter
invariant_of-self-in-loop-letter c = record { text = is_utf8-from_IsUtf8 c.as_str-self.result.now c.as_str-self.utf8 }
