-- Places in groups, by hashes of the letters before them.
use Rattle.std.specs.Prelude.{◌≡◌, ◌⊎◌, ℕ, ◌+◌, ◌*◌, ◌/◌, ◌%◌, ◌^◌, ◌<◌, ◌≤◌, List, [], ◌∷◌, ◌++◌, Vec, Contains, length, map, slice_index_or}
use Rattle.std.specs.Global.{Global}
use Rattle.lic_words.specs.Words.{Word, blank}
use Rattle.lic_tokens.specs.Tokens.{TokenValue}
use Rattle.lic_places.specs.Reads.{Reads}
use Rattle.lic_spans.specs.Spans.{Holds}
use Rattle.lic_spans.specs.declared.span.SpanKind.{SpanKind}
use Rattle.lic_spans.specs.declared.span.PlaceSpan.{PlaceSpan}
use Rattle.lic_reverse.specs.declared.ways.groups.Entry.{Entry}
use Rattle.lic_view.specs.PlaceSets.{ArePlaced, Reaches}

-- the hash of letters with one more before them
unfoldable pub mixed : ℕ → ℕ → ℕ
mixed hash letter = (hash + letter) % 2 ^ 64 * 0x9E3779B97F4A7C15 % 2 ^ 64

-- the hash of a sequence of letters before others with a hash
abbrev pub hash_before : ℕ → Word → ℕ
hash_before hash [] = hash
hash_before hash (c ∷ w) = mixed (hash_before hash w) c

-- the hash of a sequence of letters
abbrev pub hash_of : Word → ℕ
hash_of w = hash_before 0 w

-- the number of the group for a hash
abbrev pub number_of : ℕ → ℕ → ℕ
number_of hash count = hash / 2 ^ 32 % count

-- one to eight letters, and no blank
pub record AreLastLetters (w : Word) : Type 0 where
  pub dark : (c : ℕ) → Contains w c → ¬ (c ≡ blank)
  pub some : 0 < length w
  pub few : length w ≤ 8

-- the entries of a group
abbrev pub group : List (Vec Entry Global) → ℕ → List Entry
group lists number = slice_index_or (map (λ list. list.items) lists) number []

-- the group for the hash has the span with it
abbrev pub HasEntry : List (Vec Entry Global) → ℕ → PlaceSpan → Type 0
HasEntry lists hash span = Contains (group lists (number_of hash (length lists))) (record { hash = hash; span = span })

-- no group has an entry
abbrev pub HasNone : List (Vec Entry Global) → Type 0
HasNone lists = (hash : ℕ) (span : PlaceSpan) → HasEntry lists hash span → ⊥

-- a span has numbers of the others alone
pub record IsPieceOf (spans : List PlaceSpan) (piece : PlaceSpan) : Type 0 where
  pub ordered : piece.low ≤ piece.high
  pub among : (kind : SpanKind) (number last : ℕ) → Holds (piece ∷ []) kind number last → Holds spans kind number last

-- an entry with the hash of these letters has the place
pub record HasPlaceWith (tokens : List TokenValue) (lists : List (Vec Entry Global)) (w : Word) (q last : ℕ) : Type 0 where
  pub span : PlaceSpan
  pub entry : HasEntry lists (hash_of w) span
  pub reaches : Reaches tokens (span ∷ []) q last

-- Such spans were added that each of the places is in the group for each sequence of letters that comes before it.
pub record AddsPlaces (tokens : List TokenValue) (Added : PlaceSpan → Type 0) (Ends : ℕ → ℕ → Type 0) (old new : List (Vec Entry Global)) : Type 0 where
  pub same : length new ≡ length old
  pub kept : (hash : ℕ) (span : PlaceSpan) → HasEntry old hash span → HasEntry new hash span
  pub sound : (hash : ℕ) (span : PlaceSpan) → HasEntry new hash span → HasEntry old hash span ⊎ Added span
  pub complete : (w : Word) (p q last : ℕ) → AreLastLetters w → Reads tokens p w q → Ends q last → HasPlaceWith tokens new w q last

-- The groups have places of the spans alone, and each in the group for each sequence of letters that comes before it.
pub record AreGroupsOf (tokens : List TokenValue) (spans : List PlaceSpan) (lists : List (Vec Entry Global)) : Type 0 where
  pub sound : (hash : ℕ) (span : PlaceSpan) → HasEntry lists hash span → IsPieceOf spans span
  pub complete : (w : Word) (p q last : ℕ) → AreLastLetters w → Reads tokens p w q → Reaches tokens spans q last → HasPlaceWith tokens lists w q last

-- each word of the set ends with letters that have this hash
abbrev pub EndIn : (Word → Type 0) → ℕ → Type 0
EndIn P hash = (w : Word) → P w → (u v : Word) × (w ≡ u ++ v) × AreLastLetters v × (hash_of v ≡ hash)

-- the part has places of the whole alone, and of these each to which a word of the set leads
pub record IsPartFor (tokens : List TokenValue) (P : Word → Type 0) (whole part : List PlaceSpan) : Type 0 where
  pub placed : ArePlaced tokens part
  pub among : (p last : ℕ) → Reaches tokens part p last → Reaches tokens whole p last
  pub all : (p q last : ℕ) (w : Word) → Reaches tokens whole q last → P w → Reads tokens p w q → Reaches tokens part q last
