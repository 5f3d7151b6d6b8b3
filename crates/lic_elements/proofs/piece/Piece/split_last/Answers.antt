use Rattle.std.proofs.Common.{◌≡◌, ℕ, ◌+◌, ◌++◌, List, length, sym, ap, ◌∙◌, length-append, arith, rules}
use Rattle.std.specs.Char.{IsScalar, encode_utf8}
use Rattle.std.proofs.lemmas.Str.{is_utf8-from_IsUtf8}
use Rattle.lic_ere.proofs.LocatedLemmas.{none_left}
use Rattle.lic_elements.proofs.LocatedLemmas.{last_left}
use Rattle.lic_elements.proofs.piece.Piece.split_last.Goals as goal

pub returns-in_err-character-clause-none : goal.returns-in_err-character-clause-none
returns-in_err-character-clause-none c =
    rw c.from_residual.ensures (none_left c.args.self.offset c.args.self.text.now
    (ap length (sym c.chars-chars.ensures.rest) ∙ c.in_err-character.ensures.steps.0))

pub invariant_of-before : goal.invariant_of-before
invariant_of-before c =
    let character = c.in_ok-character.character in
    let bs : List ℕ = c.args.self.text.now in
    let front : List ℕ = c.as_str.result.now in
    let came : bs ≡ front ++ encode_utf8 character =
    sym c.chars-chars.ensures.rest ∙ c.in_ok-character.ensures.steps ∙ ap (λ r. r ++ encode_utf8 character) (sym c.as_str.ensures) in
    let count : length bs ≡ length front + length (encode_utf8 character) = ap length came ∙ length-append front (encode_utf8 character) in
    record { utf8 = is_utf8-from_IsUtf8 front c.as_str.utf8; fits = omega (arith, count, c.args.self.fits) }

pub returns-clause-some : goal.returns-clause-some
returns-clause-some c =
    let character = c.in_ok-character.character in
    let scalar : IsScalar character = search (rules) in
    let front : List ℕ = c.as_str.result.now in
    last_left c.args.self.offset c.args.self.text.now front character c.as_str.utf8 scalar
    (sym c.chars-chars.ensures.rest ∙ c.in_ok-character.ensures.steps ∙ ap (λ r. r ++ encode_utf8 character) (sym c.as_str.ensures))
