-- Where the tokens of lines begin and end in their letters.
use Rattle.std.proofs.Common.{◌≡◌, ℕ, ◌+◌, ◌-◌, ◌<◌, ◌≤◌, List, length, get_or, arith}
use Rattle.std.specs.Prelude.{IsAscii}
use Rattle.std.proofs.lemmas.Str.{IsCharBoundary-from_ascii, IsUtf8-from_ascii}
use Rattle.lic_columns.specs.PlainLines.{HaveFirstTokens}
use Rattle.lic_columns.specs.TokenOffsets.{TokenOffsets}
use Rattle.lic_kind.specs.LineRules.{LineRules}
use Rattle.lic_rewriting.specs.Sections.{AreTokenOffsets}
use Rattle.lic_rewriting.proofs.WordTexts.{words-ascii}

-- of letters of ASCII each offset is between two characters
pub ascii_offsets : (at : ℕ) (offsets : TokenOffsets) → IsAscii offsets.letters → length offsets.ends ≡ length offsets.starts
    → ((i : ℕ) → i < length offsets.starts → at ≤ get_or offsets.starts i 0)
    → ((i : ℕ) → i < length offsets.starts → get_or offsets.starts i 0 < get_or offsets.ends i 0)
    → ((i : ℕ) → i < length offsets.starts → get_or offsets.ends i 0 ≤ at + length offsets.letters) → AreTokenOffsets at offsets
ascii_offsets at offsets ascii paired from some to = record {
  utf8 = IsUtf8-from_ascii offsets.letters ascii;
  words = words-ascii offsets.letters ascii;
  paired = paired;
  from = from;
  some = some;
  to = to;
  begin = λ i lt. IsCharBoundary-from_ascii offsets.letters (get_or offsets.starts i 0 - at) ascii (omega (arith, some i lt, to i lt));
  end = λ i lt. IsCharBoundary-from_ascii offsets.letters (get_or offsets.ends i 0 - at) ascii (omega (arith, to i lt));
}

-- of simple characters each offset of a token is
pub simple_offsets : (rules : LineRules) (at : ℕ) (text : List ℕ) (offsets : TokenOffsets) → HaveFirstTokens rules at text offsets → AreTokenOffsets at offsets
simple_offsets rules at text offsets have = record {
  utf8 = have.utf8;
  words = have.words;
  paired = have.paired;
  from = have.from;
  some = have.some;
  to = have.to;
  begin = have.begin;
  end = have.end;
}
