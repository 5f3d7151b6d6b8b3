use Rattle.std.proofs.Common.{◌≡◌, ℕ, ◌+◌, ◌≤◌, List, ◌++◌, length, take, sym, ap, ◌∙◌, inl, inr, arith}
use Rattle.std.proofs.lemmas.List.{length-take-le}
use Rattle.std.proofs.lemmas.Simd.{take_more_put_chunk}
use lib.Lanes.{put_chunk}
use Rattle.lic_rewriting.proofs.rewriting.batch.copy_letters.Goals as goal

-- n letters that are stored at an offset
stored : (bytes letters : List ℕ) (offset wide n : ℕ) → wide ≡ n → offset + wide ≤ length bytes → wide ≤ length letters
    → take (offset + wide) (put_chunk offset bytes (take n letters)) ≡ take offset bytes ++ take wide letters
stored bytes letters offset wide n is fits long =
    let copied : length (take n letters) ≡ n = length-take-le n letters (omega (arith, is, long)) in
    take_more_put_chunk offset bytes (take n letters) (offset + wide) (omega (arith, is, copied)) fits ∙ ap (λ m. take offset bytes ++ take m letters) (sym is)

pub returns-then-wide-eq-COPIED-clause-copied : goal.returns-then-wide-eq-COPIED-clause-copied
returns-then-wide-eq-COPIED-clause-copied c =
    stored c.args.bytes.now c.args.letters.now c.args.offset c.args.wide 16 c.if-wide-eq-COPIED.true c.requires.fits c.requires.long

pub returns-else-wide-eq-COPIED-clause-copied : goal.returns-else-wide-eq-COPIED-clause-copied
returns-else-wide-eq-COPIED-clause-copied c =
    elim c.requires.lanes [
      | inl e ↦ absurd (c.if-wide-eq-COPIED.false e)
      | inr e ↦ stored c.args.bytes.now c.args.letters.now c.args.offset c.args.wide 32 e c.requires.fits c.requires.long
    ]
