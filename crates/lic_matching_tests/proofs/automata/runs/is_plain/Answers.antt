use Rattle.std.proofs.Common.{◌≡◌, ◌+◌, ◌==◌, ◌∷◌, length, get_or, not, true, sym, ap, ◌∙◌, arith}
use Rattle.std.proofs.lemmas.List.{length-append}
use Rattle.std.proofs.lemmas.Bool.Decides.{nat_tests}
use Rattle.std.proofs.Math.Seq.{get_or-append_seam}
use Rattle.lic_matching_tests.proofs.automata.runs.is_plain.Goals as goal

pub returns : goal.returns
returns c = λ h.
    let text = c.args.text.now in
    let bytes : c.as_bytes-byte-items.result.now ≡ text = c.as_bytes-byte-items.ensures.value in
    let some : not (length text == 0) ≡ true = ap not (sym c.is_empty.ensures) ∙ h in
    record {
      not_empty = grind (arith, nat_tests, some);
      blanks = λ front rest is.
          let there : length text ≡ length front + (length rest + 1) = omega (arith, ap length is, length-append front (0x20 ∷ rest)) in
          let at : get_or text (length front) 0 ≡ 0x20 = ap (λ xs. get_or xs (length front) 0) is ∙ get_or-append_seam front 0x20 rest 0 in
          absurd (c.loop-byte.invariant (length front) (omega (arith, there, ap length bytes, c.loop-byte-test.false))
          (ap (λ xs. get_or xs (length front) 0) bytes ∙ at));
    }
