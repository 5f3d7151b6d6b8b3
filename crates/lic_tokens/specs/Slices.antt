-- The tokens that slices keep.
use Rattle.std.specs.Prelude.{List}
use Rattle.lic_tokens.specs.Entries.{entries_by, entry_values}
use Rattle.lic_tokens.specs.Tokens.{TokenValue}
use Rattle.lic_tokens.specs.declared.token_slices.TokenSlices.{TokenSlices}

-- the tokens that are kept as these slices
abbrev pub sliced_tokens : TokenSlices → List TokenValue
sliced_tokens slices = entry_values slices.spelling.now 0 (entries_by slices.ends.now slices.sources.now)
