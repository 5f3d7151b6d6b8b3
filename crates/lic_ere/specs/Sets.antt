-- The set of letters that a bracket denotes.
use Rattle.std.specs.Prelude.{◌≡◌, ℕ, ◌+◌, ◌-◌, ◌≤◌, Bool, ◌&&◌, ◌||◌, not, ◌==◌, nat_le, max, min, List, [], ◌∷◌, if◌then◌else◌}
use Rattle.std.specs.Bool.{MatchBool}
use Rattle.std.specs.List.{list_any, Any}
use Rattle.std.specs.Char.{is_whitespace, is_ascii_uppercase, is_ascii_lowercase}
use Rattle.lic_kind.specs.Kinds.{is_dash, is_quote}
use Rattle.lic_ere.specs.declared.class.Member.{Member}

-- what a bracket says: its members, each from a first character to a last one, and whether a `^` comes before them
pub record Brackets : Type 0 where
  pub members : List Member
  pub complement : Bool

-- the letter that a character denotes inside a bracket
unfoldable pub image : ℕ → ℕ
image c =
    if is_ascii_uppercase c then c + 32
    else (if is_dash c then 0x2D
    else (if is_quote c then 0x27
    else (if is_whitespace c then 0x20
    else c)))

-- some character of the member has this letter as its image
abbrev pub HasImage : Member → ℕ → Type 0
HasImage m letter = (c : ℕ) × (m.first ≤ c) × (c ≤ m.last) × (image c ≡ letter)

-- some member has this letter as an image
abbrev pub SomeImage : List Member → ℕ → Type 0
SomeImage ms letter = Any (λ m. HasImage m letter) ms

-- the letter is in the set: some member has it as an image, or after a `^` none has
abbrev pub IsIn : Brackets → ℕ → Type 0
IsIn b letter = MatchBool b.complement (¬ (SomeImage b.members letter)) (SomeImage b.members letter)

-- some number from a first to a last one is in a range
abbrev pub meets : Member → ℕ × ℕ → Bool
meets m range = nat_le (max m.first range.0) (min m.last range.1)

-- the white space characters, the dashes and the quotes, as ranges
abbrev pub spaces : List (ℕ × ℕ)
spaces =
    (0x9, 0xD) ∷ (0x20, 0x20) ∷ (0x85, 0x85) ∷ (0xA0, 0xA0) ∷ (0x1680, 0x1680) ∷ (0x2000, 0x200A) ∷ (0x2028, 0x2029)
    ∷ (0x202F, 0x202F) ∷ (0x205F, 0x205F) ∷ (0x3000, 0x3000) ∷ []

abbrev pub dashes : List (ℕ × ℕ)
dashes = (0x2D, 0x2D) ∷ (0x2010, 0x2015) ∷ (0x2212, 0x2212) ∷ (0xFE58, 0xFE58) ∷ (0xFE63, 0xFE63) ∷ (0xFF0D, 0xFF0D)
    ∷ []

abbrev pub quotes : List (ℕ × ℕ)
quotes =
    (0x22, 0x22) ∷ (0x27, 0x27) ∷ (0x60, 0x60) ∷ (0xB4, 0xB4) ∷ (0xAB, 0xAB) ∷ (0xBB, 0xBB) ∷ (0x2018, 0x201F)
    ∷ (0x2039, 0x203A) ∷ []

-- some character of a member is in one of the ranges
abbrev pub meets_any : Member → List (ℕ × ℕ) → Bool
meets_any m ranges = list_any (meets m) ranges

-- `HasImage` as a test of the characters that have the letter as their image
abbrev pub has_image : Member → ℕ → Bool
has_image m letter =
    if is_ascii_lowercase letter then meets m (letter, letter) || meets m (letter - 32, letter - 32)
    else (if letter == 0x2D then meets_any m dashes
    else (if letter == 0x27 then meets_any m quotes
    else (if letter == 0x20 then meets_any m spaces
    else image letter == letter && meets m (letter, letter))))

-- `IsIn` as a test
abbrev pub is_in : Brackets → ℕ → Bool
is_in b letter = if b.complement then not
    (list_any (λ m. has_image m letter) b.members) else list_any (λ m. has_image m letter) b.members
