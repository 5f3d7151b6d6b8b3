-- An input that comes in pieces.
use Rattle.std.specs.Prelude.{◌≡◌, ◌⊎◌, ℕ, ◌==◌, if◌then◌else◌, List, [], ◌∷◌, ◌++◌, Option, Some, None}
use Rattle.std.specs.List.{list_any}
use Rattle.lic_kind.specs.LineRules.{LineRules}
use Rattle.lic_phrases.specs.Rewriting.{Phrase}
use Rattle.lic_tokens.specs.Tokens.{TokenValue}
use Rattle.lic_norm.specs.declared.fault.TextFault.{TextFault}

-- what a caller sees of a feeder
pub record FeederValue : Type 0 where
  -- the pieces so far, joined
  pub bytes : List ℕ
  pub words : List Phrase
  pub rules : LineRules
  -- the tokens that are settled
  pub tokens : List TokenValue
  -- the refusal, once there was one
  pub refused : Option TextFault

-- the front of an input up to its last U+000A
abbrev pub lines_read : List ℕ → List ℕ
lines_read [] = []
lines_read (byte ∷ bytes) = if list_any (λ b. b == 0x0A) (byte ∷ bytes) then byte ∷ lines_read bytes else []

-- the tokens that are settled, of those that are listed: none after a refusal
abbrev pub settled_in : Option TextFault → List TokenValue → List TokenValue
settled_in None tokens = tokens
settled_in (Some fault) tokens = []

-- these tokens are first in the other list
abbrev pub AreFirst : List TokenValue → List TokenValue → Type 0
AreFirst tokens all = (rest : List TokenValue) × (all ≡ tokens ++ rest)

-- these bytes are whole lines: the last of them is U+000A, if there is one
abbrev pub AreLines : List ℕ → Type 0
AreLines bytes = (bytes ≡ []) ⊎ ((front : List ℕ) × (bytes ≡ front ++ 0x0A ∷ []))
