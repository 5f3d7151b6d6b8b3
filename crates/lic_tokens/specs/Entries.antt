-- How tokens are kept: their canonical spelling, and an entry of each.
use Rattle.std.specs.Prelude.{◌≡◌, ℕ, suc, ◌<◌, ◌^◌, ◌==◌, if◌then◌else◌, List, [], ◌∷◌, ◌++◌, length, slice_index, slice_range, All, IsUtf8}
use Rattle.lic_phrases.specs.Spelling.{spelled}
use Rattle.lic_tokens.specs.Places.{texts_of}
use Rattle.lic_tokens.specs.Tokens.{AreTokenTexts, TokenValue}
use Rattle.lic_tokens.specs.declared.entries.SourceBytes.{SourceBytes}

-- a token as it is kept: where its text ends in the canonical spelling, and its bytes of the source
pub record Entry : Type 0 where
  pub text_end : ℕ
  pub start : ℕ
  pub end : ℕ

-- the entries of tokens whose texts end at these places, and that were made from these bytes
abbrev pub entries_by : List ℕ → List SourceBytes → List Entry
entries_by [] sources = []
entries_by (end ∷ ends) [] = []
entries_by (end ∷ ends) (source ∷ sources) =
    (record { text_end = end; start = source.start; end = source.end }) ∷ entries_by ends sources

-- 32 bits say where the texts end
abbrev pub AreNear : List Entry → Type 0
AreNear entries = All (λ e. e.text_end < 2 ^ 32) entries

-- where the text begins that comes after this place of a spelling: after the blank there, if there is one
abbrev pub text_from : List ℕ → ℕ → ℕ
text_from spelling place = if slice_index spelling place == 0x20 then suc place else place

-- the tokens of these entries, whose texts come after this place of the spelling
abbrev pub entry_values : List ℕ → ℕ → List Entry → List TokenValue
entry_values spelling place [] = []
entry_values spelling place (e ∷ entries) =
    record {
      text = slice_range spelling (text_from spelling place) e.text_end;
      span = record { start = e.start; end = e.end };
    }
    ∷ entry_values spelling e.text_end entries

-- these are the entries of these tokens, whose texts come after those others
abbrev pub AreEntries : List (List ℕ) → List TokenValue → List Entry → Type 0
AreEntries before [] [] = Unit {0}
AreEntries before (t ∷ tokens) (e ∷ entries) =
    (e.text_end ≡ length (spelled (before ++ t.text ∷ []))) × (record { start = e.start; end = e.end } ≡ t.span)
    × AreEntries (before ++ t.text ∷ []) tokens entries
AreEntries before tokens entries = ⊥

-- tokens are kept by their canonical spelling and these entries
pub record IsKept (spelling : List ℕ) (entries : List Entry) (tokens : List TokenValue) : Type 0 where
  pub spells : spelling ≡ spelled (texts_of tokens)
  pub each : AreEntries [] tokens entries
  pub utf8 : All (λ t. IsUtf8 t.text) tokens
  pub texts : AreTokenTexts tokens

-- by these bytes and entries, put after those of the tokens before, these tokens are kept as well
pub record AreSpelledAfter (before tokens : List TokenValue) (bytes : List ℕ) (entries : List Entry) : Type 0 where
  pub utf8 : IsUtf8 bytes
  pub kept : (spelling : List ℕ) (others : List Entry) → IsKept spelling others before
      → IsKept (spelling ++ bytes) (others ++ entries) (before ++ tokens)

-- some tokens are
pub record HasSpelled (before : List TokenValue) (bytes : List ℕ) (entries : List Entry) : Type 0 where
  pub tokens : List TokenValue
  pub spelled : AreSpelledAfter before tokens bytes entries
