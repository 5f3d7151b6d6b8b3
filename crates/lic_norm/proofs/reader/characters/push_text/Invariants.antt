use Rattle.std.proofs.Common.{◌≡◌, ℕ, ◌+◌, ◌++◌, List, length}
use Rattle.std.specs.Str.{chars, encode_utf8_all}
use Rattle.std.specs.Str.Iter.{chars_rest}
use Rattle.lic_trim.specs.Sources.{placed, without_dropped}
use Rattle.lic_norm.proofs.reader.characters.push_text.Given as goal

-- the characters so far, and those that are left
abbrev pub invariant-loop-char : goal.invariant-loop-char
invariant-loop-char l =
    (cs : List ℕ) × (encode_utf8_all cs ≡ chars_rest l.char-iterator)
    × (l.start + length (encode_utf8_all cs) ≡ l.fn.at + length l.text)
    × (l.characters.items ++ without_dropped (placed l.start cs) ≡ l.fn.characters.items ++ without_dropped (placed l.fn.at (chars l.text)))
