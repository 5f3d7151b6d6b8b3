use Rattle.std.proofs.Common.{◌<◌, get_or, inl, inr, arith}
use Rattle.std.specs.Str.{IsCharBoundary}
use Rattle.std.proofs.lemmas.Str.{IsCharBoundary-after_ascii, IsUtf8-take}
use Rattle.lic_rewriting.proofs.WordTexts.{take_words}
use Rattle.lic_rewriting.proofs.section.token_text.Goals as goal
use Rattle.lic_rewriting.proofs.section.token_text.Goals.{In-39}

-- after a first byte of ASCII a character begins
after_first : (c : In-39) → IsCharBoundary c.args.letters.now 1
after_first c =
    let letters = c.args.letters.now in
    let low : get_or letters 0 0 < 128 = elim c.in-39.is [
      | inl is ↦ omega (arith, is)
      | inr is ↦ omega (arith, is)
    ] in
    IsCharBoundary-after_ascii letters 0 c.requires.utf8 c.requires.some low

pub returns-in-39-clause-utf8 : goal.returns-in-39-clause-utf8
returns-in-39-clause-utf8 c =
    IsUtf8-take c.args.letters.now 1 c.requires.utf8 (after_first (goal.at.returns-in-39-clause-utf8 c).In-39)

pub returns-in-39-clause-words : goal.returns-in-39-clause-words
returns-in-39-clause-words c =
    let letters = c.args.letters.now in
    let cut = IsUtf8-take letters 1 c.requires.utf8 (after_first (goal.at.returns-in-39-clause-words c).In-39) in
    take_words letters 1 cut c.requires.words
