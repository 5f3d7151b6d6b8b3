use Rattle.std.proofs.Common.{◌≡◌, ℕ, ◌+◌, ◌++◌, List, length, sym, ap, ◌∙◌, length-append, arith}
use Rattle.std.specs.Char.{encode_utf8}
use Rattle.std.proofs.lemmas.Str.{IsUtf8-from_is_utf8, is_utf8-from_IsUtf8}
use Rattle.lic_ere.proofs.LocatedLemmas.{none_left, one_left}
use Rattle.lic_elements.proofs.piece.Piece.split_first.Goals as goal

pub returns-in_err-character-clause-none : goal.returns-in_err-character-clause-none
returns-in_err-character-clause-none c =
    rw c.from_residual.ensures (none_left c.args.self.offset c.args.self.text.now
    (ap length (sym c.chars-chars.ensures.rest) ∙ c.in_err-character.ensures.steps.0.0))

pub invariant_of-rest : goal.invariant_of-rest
invariant_of-rest c =
    let character = c.in_ok-character.character in
    let bs : List ℕ = c.args.self.text.now in
    let rest : List ℕ = c.as_str.result.now in
    let came : bs ≡ encode_utf8 character ++ rest =
    sym c.chars-chars.ensures.rest ∙ c.in_ok-character.ensures.steps.0 ∙ ap (λ r. encode_utf8 character ++ r) (sym c.as_str.ensures) in
    let count : length bs ≡ length (encode_utf8 character) + length rest = ap length came ∙ length-append (encode_utf8 character) rest in
    record { utf8 = is_utf8-from_IsUtf8 rest c.as_str.utf8; fits = omega (arith, count, c.args.self.fits, c.len_utf8.ensures.len) }

pub returns-clause-some : goal.returns-clause-some
returns-clause-some c =
    let character = c.in_ok-character.character in
    let bs : List ℕ = c.args.self.text.now in
    let rest : List ℕ = c.as_str.result.now in
    let came : bs ≡ encode_utf8 character ++ rest =
    sym c.chars-chars.ensures.rest ∙ c.in_ok-character.ensures.steps.0 ∙ ap (λ r. encode_utf8 character ++ r) (sym c.as_str.ensures) in
    one_left c.args.self.offset _ bs rest character (IsUtf8-from_is_utf8 bs c.args.self.utf8) came
    (ap (λ (n : ℕ). c.args.self.offset + n) c.len_utf8.ensures.value)

pub returns-clause-end : goal.returns-clause-end
returns-clause-end c =
    let character = c.in_ok-character.character in (
      encode_utf8 character,
      sym c.chars-chars.ensures.rest ∙ c.in_ok-character.ensures.steps.0 ∙ ap (λ r. encode_utf8 character ++ r) (sym c.as_str.ensures),
      ap (λ (n : ℕ). c.args.self.offset + n) c.len_utf8.ensures.len,
    )
