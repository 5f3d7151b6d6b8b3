-- How far the reading of an input has come.
use Rattle.std.specs.Prelude.{◌≢◌, ◌≤◌, length, take, drop, All}
use Rattle.lic_kind.specs.LineRules.{rules_of}
use Rattle.lic_rewriting.specs.Taking.{HasTaken}
use Rattle.lic_norm.specs.Tokens.{first_tokens_of}
use Rattle.lic_norm.specs.Feeding.{AreLines}
use Rattle.lic_norm.specs.declared.reader.Reader.{Reader}

-- the lines before the one that has not ended have been taken
pub record HasRead (reader : Reader) : Type 0 where
  pub within : reader.line_start ≤ length reader.source.items
  pub lines : AreLines (take reader.line_start reader.source.items)
  pub taken : HasTaken reader.rewriting
      (first_tokens_of (rules_of reader.rules.now) 0 (take reader.line_start reader.source.items))

-- and that one has no U+000A
pub record HasReadLines (reader : Reader) : Type 0 where
  pub read : HasRead reader
  pub open_line : All (λ b. b ≢ 0x0A) (drop reader.line_start reader.source.items)
