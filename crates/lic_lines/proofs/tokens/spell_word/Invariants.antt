use Rattle.std.proofs.Common.{◌≡◌, ℕ, ◌-◌, ◌<◌, ◌≤◌, length, take, map, get_or}
use Rattle.std.specs.Prelude.{string_bytes, encode_utf8_all}
use Rattle.lic_kind.specs.Kinds.{kind_of}
use Rattle.lic_kind.specs.declared.Kind.TheVariants as kind
use Rattle.lic_trim.specs.declared.source.SourceChar.{SourceChar}
use Rattle.lic_lines.specs.Cells.{Word}
use Rattle.lic_lines.specs.Tokens.{letters_of}
use Rattle.lic_lines.proofs.tokens.spell_word.Given as goal

abbrev pub invariant-loop-count : goal.invariant-loop-count
invariant-loop-count l = record {
  within : l.count ≤ length l.text;
  words : (i : ℕ) (d : SourceChar) → i < l.count → kind_of (get_or l.text i d).char ≡ kind.Word;
  letters : string_bytes l.letters ≡ encode_utf8_all (letters_of (map Word (take l.count l.text)));
}

abbrev pub decreases-loop-count : goal.decreases-loop-count
decreases-loop-count l = length l.text - l.count
