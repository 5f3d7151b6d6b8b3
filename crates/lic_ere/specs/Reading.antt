-- Lexemes into a tree, or the first fault.
use Rattle.std.specs.Prelude.{ℕ, List, [], ◌∷◌, ◌++◌, length, nat_lt, Option, Some, None, Result, Ok, Err, if◌then◌else◌}
use Rattle.lic_ere.specs.declared.lexeme.bounds.Bounds.{Bounds}
use Rattle.lic_ere.specs.declared.fault.EreFault.{EreFault}
use Rattle.lic_ere.specs.declared.fault.EreCause.TheVariants.{NothingToRepeat, TwoSigns, BadBound, GroupNotClosed, TooDeep}
use Rattle.lic_ere.specs.Signs.{close_paren}
use Rattle.lic_ere.specs.Trees.{Tree, repeat, units_tree, choice_tree, letters_tree}
use Rattle.lic_ere.specs.Faults.{fault_at, ◌>>=◌}
use Rattle.lic_ere.specs.Located.{Located, located}
use Rattle.lic_ere.specs.Lexemes.{Lexeme, unit, sign, opening, closing, bar, anchor, lexemes}

-- the last unit of a sequence: none yet, one that may be repeated, or one with its repetition sign
pub data LastUnit : Type 0 where
  no_unit : LastUnit
  single : Tree → LastUnit
  repeated : Tree → LastUnit

abbrev pub last_units : LastUnit → List Tree
last_units no_unit = []
last_units (single t) = t ∷ []
last_units (repeated t) = t ∷ []

-- The whole pattern, or an open group: where it begins, its alternatives before the last `|`, and the units
-- after that, the last one apart.
pub record GroupLevel : Type 0 where
  pub offset : ℕ
  pub alternatives : List Tree
  pub before : List Tree
  pub last : LastUnit

-- a level with nothing read
abbrev pub new_level : ℕ → GroupLevel
new_level offset = record { offset = offset; alternatives = []; before = []; last = no_unit }

abbrev pub units : GroupLevel → List Tree
units l = l.before ++ last_units l.last

abbrev pub with_unit : Tree → GroupLevel → GroupLevel
with_unit t l = record l { before = units l; last = single t }

abbrev pub with_alternative : GroupLevel → GroupLevel
with_alternative l = record l {
  alternatives = l.alternatives ++ units_tree (units l) ∷ [];
  before = [];
  last =
      no_unit;
}

-- the tree of what was read
abbrev pub level_tree : GroupLevel → Tree
level_tree l = choice_tree (l.alternatives ++ units_tree (units l) ∷ [])

-- the last unit with a repetition sign at an offset
abbrev pub repeat_last : ℕ → Option Bounds → LastUnit → Result LastUnit EreFault
repeat_last offset b no_unit = Err (fault_at offset NothingToRepeat)
repeat_last offset b (repeated t) = Err (fault_at offset TwoSigns)
repeat_last offset None (single t) = Err (fault_at offset BadBound)
repeat_last offset (Some b) (single t) = Ok (repeated (repeat t b.min b.max))

abbrev pub with_sign : ℕ → Option Bounds → GroupLevel → Result GroupLevel EreFault
with_sign offset b l = repeat_last offset b l.last >>= λ last. Ok (record l { last = last })

-- how deep groups may be nested
abbrev pub max_depth : ℕ
max_depth = 64

-- the innermost level, and those round it, from the inside out
pub record State : Type 0 where
  pub level : GroupLevel
  pub outer : List GroupLevel

abbrev pub start : State
start = record { level = new_level 0; outer = [] }

abbrev pub open_group : ℕ → State → Result State EreFault
open_group offset s =
    if nat_lt (length s.outer) max_depth then Ok (record { level = new_level offset; outer = s.level ∷ s.outer })
    else Err (fault_at offset TooDeep)

-- the innermost group becomes a unit of the level round it; a `)` that closes nothing is an ordinary character
abbrev pub close_group : GroupLevel → List GroupLevel → State
close_group level [] = record { level = with_unit (letters_tree close_paren) level; outer = [] }
close_group level (o ∷ outer) = record { level = with_unit (level_tree level) o; outer = outer }

-- one more lexeme
unfoldable pub meet : ℕ → Lexeme → State → Result State EreFault
meet offset (unit t) s = Ok (record s { level = with_unit t s.level })
meet offset (sign b) s = with_sign offset b s.level >>= λ level. Ok (record s { level = level })
meet offset opening s = open_group offset s
meet offset closing s = Ok (close_group s.level s.outer)
meet offset bar s = Ok (record s { level = with_alternative s.level })
meet offset anchor s = Ok s

-- after the last lexeme
abbrev pub finish : GroupLevel → List GroupLevel → Result Tree EreFault
finish level [] = Ok (level_tree level)
finish level (o ∷ outer) = Err (fault_at level.offset GroupNotClosed)

-- the lexemes that are left, and the fault after them
unfoldable pub read_on : State → List (ℕ × Lexeme) → Option EreFault → Result Tree EreFault
read_on s [] None = finish s.level s.outer
read_on s [] (Some e) = Err e
read_on s (l ∷ ls) fault = meet l.0 l.1 s >>= λ t. read_on t ls fault

-- characters from a state on
abbrev pub read_from : State → List Located → Result Tree EreFault
read_from s rest = read_on s (lexemes 0 rest).found (lexemes 0 rest).fault

-- the tree of a pattern, given as its bytes, or its first fault
abbrev pub reading : List ℕ → Result Tree EreFault
reading pattern = read_from start (located pattern)
