use Rattle.std.proofs.Common.{◌≡◌, length, ap, ◌∙◌, arith, length-append}
use Rattle.std.specs.Char.{encode_utf8}
use Rattle.std.specs.Str.Lossy.{utf8_valid_len}
use Rattle.std.proofs.lemmas.Str.{length-encode, len_utf8_bounds, utf8_valid_len_le}
use Rattle.lic_norm.proofs.ValidPrefixes.{no_char_after}
use Rattle.lic_norm.proofs.reader.characters.valid_prefix.Goals as goal

pub returns-in-Some-clause-longest : goal.returns-in-Some-clause-longest
returns-in-Some-clause-longest c =
    let bytes = c.args.bytes.now in
    let n = length c.valid.result.now in
    let longest : n ≡ utf8_valid_len bytes = ap length c.valid.ensures ∙ c.in-Some.ensures.steps.3.0 ∙ ap utf8_valid_len c.utf8_chunks.ensures.rest in
    no_char_after bytes n longest (omega (arith, longest, utf8_valid_len_le bytes))

pub returns-in-None-clause-longest : goal.returns-in-None-clause-longest
returns-in-None-clause-longest c d rest scalar parts =
    absurd (omega (
      arith,
      c.in-None.ensures.steps.0,
      c.utf8_chunks.ensures.len,
      ap length parts,
      length-append (encode_utf8 d) rest,
      length-encode d,
      len_utf8_bounds d,
    ))
