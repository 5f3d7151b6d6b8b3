-- The bytes of a string, wherever they lie.
use Rattle.std.specs.Prelude.{ℕ, List, string_bytes}
use Rattle.lic_lines.specs.declared.small_string.Storage.{Storage}
use Rattle.lic_lines.specs.declared.small_string.Storage.TheVariants.{Here, Apart}

abbrev pub bytes_in : Storage → List ℕ
bytes_in (Here text) = text.bytes
bytes_in (Apart text) = string_bytes text
