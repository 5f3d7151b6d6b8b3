use Rattle.std.proofs.Common.{rules, ◌≡◌, ℕ, [], ◌∷◌, length, subst, ◌∙◌}
use Rattle.std.specs.Prelude.{IfSome}
use Rattle.std.specs.Char.{len_utf8}
use Rattle.lic_kind.specs.Kinds.{spell}
use Rattle.lic_letters.proofs.WideBytes.{letter_simple}
use Rattle.lic_letters.proofs.wide.put_letter.Goals as goal

pub returns-clause-simple : goal.returns-clause-simple
returns-clause-simple c = λ yes.
    let letter : ℕ = c.in-Some.letter in
    let width : ℕ = length c.args.slot.now in
    let spelled : spell c.args.c ≡ letter ∷ [] = subst (λ o. IfSome o (λ d. spell c.args.c ≡ d ∷ [])) c.in-Some.is c.in_ok-letter.ensures in
    let same : len_utf8 letter ≡ width = search rules in
    letter_simple c.args.c width letter c.as_bytes.result.now c.requires.beyond c.requires.width same c.requires.word spelled c.as_bytes.ensures.utf8
    (c.as_bytes.ensures.value ∙ c.encode_utf8.ensures.value)
