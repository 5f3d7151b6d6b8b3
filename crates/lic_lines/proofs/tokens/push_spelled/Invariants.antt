use Rattle.std.proofs.Common.{◌≡◌, ◌++◌, drop}
use Rattle.std.specs.Prelude.{string_bytes, encode_utf8_all}
use Rattle.lic_lines.proofs.tokens.push_spelled.Given as goal

abbrev pub invariant-loop-letter : goal.invariant-loop-letter
invariant-loop-letter l = string_bytes l.text ++ encode_utf8_all (drop l.letter-index l.letter-items) ≡ string_bytes l.fn.text ++ encode_utf8_all l.letter-items
