-- The tokens of a text in UTF-8, and of one of ASCII.
use Rattle.std.proofs.Common.{◌≡◌, ℕ, List, ap, sym, ◌∙◌}
use Rattle.std.specs.Prelude.{IsAscii}
use Rattle.std.specs.Str.{IsUtf8, chars}
use Rattle.std.proofs.lemmas.Str.{chars-IsAscii, IsUtf8-from_ascii}
use Rattle.lic_kind.specs.LineRules.{LineRules}
use Rattle.lic_lines.specs.Cells.{cells_of}
use Rattle.lic_lines.specs.Streaks.{streaks_joined}
use Rattle.lic_trim.specs.Sources.{placed}
use Rattle.lic_lines.specs.Tokens.{first_tokens, single_signs, text_tokens}
use Rattle.lic_norm.specs.Tokens.{first_tokens_of}
use Rattle.lic_norm.proofs.AnyBytes.{source_of-utf8}

pub first_tokens_of-utf8 : (rules : LineRules) (at : ℕ) (text : List ℕ) → IsUtf8 text
    → single_signs (first_tokens (streaks_joined rules (cells_of rules (placed at (chars text))))) ≡ first_tokens_of rules at text
unfolding first_tokens_of
first_tokens_of-utf8 rules at text utf8 = ap (text_tokens rules) (sym (source_of-utf8 at text utf8))

-- of ASCII the characters are the bytes
pub first_tokens_of-ascii : (rules : LineRules) (at : ℕ) (text : List ℕ) → IsAscii text
    → single_signs (first_tokens (streaks_joined rules (cells_of rules (placed at text)))) ≡ first_tokens_of rules at text
unfolding first_tokens_of
first_tokens_of-ascii rules at text ascii =
    ap (text_tokens rules) (ap (placed at) (sym (chars-IsAscii text ascii)) ∙ sym (source_of-utf8 at text (IsUtf8-from_ascii text ascii)))
