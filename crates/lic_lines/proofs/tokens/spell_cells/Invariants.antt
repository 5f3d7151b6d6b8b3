use Rattle.std.proofs.Common.{◌≡◌, ◌++◌, drop}
use Rattle.std.specs.Prelude.{string_bytes, encode_utf8_all}
use Rattle.lic_lines.specs.Tokens.{letters_of}
use Rattle.lic_lines.proofs.tokens.spell_cells.Given as goal

abbrev pub invariant-loop-cell : goal.invariant-loop-cell
invariant-loop-cell l = string_bytes l.text ++ encode_utf8_all (letters_of (drop l.cell-index l.cells)) ≡ encode_utf8_all (letters_of l.cells)
